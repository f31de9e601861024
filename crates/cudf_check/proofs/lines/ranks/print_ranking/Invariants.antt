-- The lines so far are printed.
use Rattle.std.proofs.Common.{take}
use Rattle.std.specs.List.{flat_map, enumerate_from}
use Rattle.cudf_check.specs.RankReport.{rank_line}
use Rattle.cudf_device.specs.Readers.{names_in}
use Rattle.cudf_device.specs.Promises.PaperInside.{Says}
use Rattle.cudf_check.specs.Working.Named.{entrants_style}
use Rattle.cudf_check.proofs.lines.ranks.print_ranking.Given as goal

abbrev pub invariant-loop-index : goal.invariant-loop-index
invariant-loop-index g l = Says g.W.Sink.state l.fn.paper l.paper (flat_map (rank_line (entrants_style (names_in g.S.Source.state l.sources)) l.aims) (take l.index (enumerate_from 1 l.ranked)))
