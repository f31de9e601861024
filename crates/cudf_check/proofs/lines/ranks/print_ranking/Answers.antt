use Rattle.std.proofs.Common.{◌<◌, ◌≤◌, length, arith}
use Rattle.cudf_check.specs.RankReport.{rank_line}
use Rattle.cudf_check.specs.Working.Named.{entrants_style}
use Rattle.cudf_device.specs.Readers.{names_in}
use Rattle.cudf_device.proofs.PaperLemmas.{Says-as, ◌▸◌, numbered-more, numbered-end}
use Rattle.cudf_check.proofs.lines.ranks.print_ranking.Goals as goal

pub loop-index-preserved : goal.loop-index-preserved
loop-index-preserved g c =
    let below : c.loop-index.index < length c.args.ranked.now = omega arith in
    Says-as _ _ _ _ _ (numbered-more (rank_line (entrants_style (names_in g.S.Source.state c.args.sources.now)) c.args.aims.now) c.args.ranked.now c.loop-index.index _ below)
    (c.loop-index.invariant ▸ c.print_entrant.ensures)

pub returns : goal.returns
returns g c =
    let end : length c.args.ranked.now ≤ c.loop-index.index = omega arith in
    Says-as _ _ _ _ _ (numbered-end (rank_line (entrants_style (names_in g.S.Source.state c.args.sources.now)) c.args.aims.now) c.args.ranked.now c.loop-index.index end) c.loop-index.invariant
