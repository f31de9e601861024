-- The name and the counts so far are printed.
use Rattle.std.proofs.Common.{take, ◌++◌, codes, decimal}
use Rattle.std.specs.List.{flat_map}
use Rattle.cudf_device.specs.Promises.PaperInside.{Says}
use Rattle.cudf_check.proofs.lines.judged.print_vector.Given as goal

abbrev pub invariant-loop-count : goal.invariant-loop-count
invariant-loop-count g l = Says g.W.Sink.state l.fn.paper l.paper (l.name ++ flat_map (λ count. codes " " ++ decimal count) (take l.count-index l.counts))
