-- Two statuses compared by a list of aims, as a ranking does it: own.
use Rattle.std.specs.Prelude.{ℕ, Bool, ◌==◌, not, List, find}
use Rattle.std.specs.Option.{option_map_or}
use Rattle.std.specs.Ordering.{nat_cmp}
use Rattle.std.specs.declared.cmp.Ordering.{Ordering}
use Rattle.std.specs.declared.cmp.Ordering.TheVariants.{Equal}
use Rattle.cudf_job.specs.declared.criteria.Aim.{Aim}
use Rattle.cudf_job.specs.declared.criteria.Sign.{Sign}
use Rattle.cudf_job.specs.declared.criteria.Sign.TheVariants.{Least, Most}
use Rattle.cudf_job.specs.declared.criteria.Criteria.{Criteria}
use Rattle.cudf_job.specs.Aims.{count_row}

-- under `-` the lesser count is `Less`, under `+` it is `Greater`
abbrev pub sign_cmp : Sign → ℕ → ℕ → Ordering
sign_cmp Least m n = nat_cmp m n
sign_cmp Most m n = nat_cmp n m

-- the two compared by one count
abbrev pub aim_cmp : Criteria → Criteria → Aim → Ordering
aim_cmp c d aim = sign_cmp aim.sign ((count_row aim.count).1 c) ((count_row aim.count).1 d)

-- their counts of this name differ
abbrev pub differ_in : Criteria → Criteria → Aim → Bool
differ_in c d aim = not ((count_row aim.count).1 c == (count_row aim.count).1 d)

-- the two compared by the first aim whose counts differ; `Equal` without such an aim
abbrev pub compare : List Aim → Criteria → Criteria → Ordering
compare aims c d = option_map_or (aim_cmp c d) (find (differ_in c d) aims) Equal
