-- Lists of aims, by which a competition compares proposed statuses: own.
use Rattle.std.specs.Prelude.{ℕ, List, ◌++◌, codes}
use Rattle.cudf_job.specs.declared.criteria.Aim.{Aim}
use Rattle.cudf_job.specs.declared.criteria.Count.{Count}
use Rattle.cudf_job.specs.declared.criteria.Count.TheVariants.{Removed, New, Changed, NotUpToDate, UnsatRecommends, Touched}
use Rattle.cudf_job.specs.declared.criteria.Sign.{Sign}
use Rattle.cudf_job.specs.declared.criteria.Sign.TheVariants.{Least, Most}
use Rattle.cudf_job.specs.declared.criteria.Criteria.{Criteria}

-- each count's name, and its number among the criteria
abbrev pub count_row : Count → List ℕ × (Criteria → ℕ)
count_row Removed = (codes "removed", λ c. c.removed)
count_row New = (codes "new", λ c. c.new)
count_row Changed = (codes "changed", λ c. c.changed)
count_row NotUpToDate = (codes "notuptodate", λ c. c.notuptodate)
count_row UnsatRecommends = (codes "unsat_recommends", λ c. c.unsat_recommends)
count_row Touched = (codes "touched", λ c. c.touched)

abbrev pub sign_text : Sign → List ℕ
sign_text Least = codes "-"
sign_text Most = codes "+"

-- the sign, and directly after it the name of the count, as `-removed`
abbrev pub aim_text : Aim → List ℕ
aim_text aim = sign_text aim.sign ++ (count_row aim.count).0
