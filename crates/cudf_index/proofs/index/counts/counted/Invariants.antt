use Rattle.std.proofs.Common.{◌≡◌, ◌≤◌, ◌+◌, ◌++◌, length, map}
use Rattle.cudf_index.specs.Working.Givers.{Gathers, runs}
use Rattle.cudf_index.proofs.index.counts.counted.Given as goal

abbrev pub invariant-loop-run : goal.invariant-loop-run
invariant-loop-run l =
    (runs l.row ≡ map (λ run. run.now) l.yielded ++ runs l.run-iterator.rest.now) × Gathers (map (λ run. run.now) l.yielded) l.gathering
    × (l.gathering.unversioned + length l.run-iterator.rest.now ≤ length l.row)
