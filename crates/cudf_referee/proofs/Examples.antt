-- What no list of criteria says: it has an aim.
use Rattle.std.proofs.Common.{◌≡◌, [], refl}
use Rattle.std.specs.declared.cmp.Ordering.TheVariants.{Equal}
use Rattle.cudf_job.specs.declared.criteria.Criteria.{Criteria}
use Rattle.cudf_job.specs.Comparing.{compare}

without_aims : (one other : Criteria) → compare [] one other ≡ Equal
without_aims one other = refl
