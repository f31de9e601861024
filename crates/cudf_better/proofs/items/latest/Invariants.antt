use Rattle.std.proofs.Common.{◌≡◌, drop, map, max}
use Rattle.cudf_referee.specs.Criteria.{greatest}
use Rattle.cudf_better.specs.Working.Sources.{version_at}
use Rattle.cudf_better.proofs.items.latest.Given as goal

abbrev pub invariant-loop-place : goal.invariant-loop-place
invariant-loop-place l = greatest (map (version_at l.source.problem.now) l.places) ≡ max (greatest (map (version_at l.source.problem.now) (drop l.place-index l.places))) l.latest
