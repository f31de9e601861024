-- Items as the code makes them: by places, and name by name.
use Rattle.std.specs.Prelude.{ℕ, Bool, ◌==◌, List, [], ◌∷◌, map, take, filter, if◌then◌else◌}
use Rattle.std.specs.Option.{option_map_or}
use Rattle.cudf_value.specs.Formulas.{PlainAtom}
use Rattle.cudf_problem.specs.Documents.{is_empty}
use Rattle.cudf_problem.specs.Statuses.{is_initial}
use Rattle.cudf_problem.specs.Universe.{PlainProblem, package_at}
use Rattle.cudf_index.specs.Satisfaction.{meets_clause_alone}
use Rattle.cudf_job.specs.declared.criteria.Count.{Count}
use Rattle.cudf_job.specs.declared.criteria.Count.TheVariants.{Removed, New, Changed, NotUpToDate, UnsatRecommends, Touched}
use Rattle.cudf_lrat.specs.declared.cnf.Literal.{Literal}
use Rattle.cudf_referee.specs.Criteria.{each_once}
use Rattle.cudf_referee.specs.Proposals.{holds_place}
use Rattle.cudf_cnf.specs.Cnf.{is_in, is_out, one_of}
use Rattle.cudf_better.specs.Better.{Item, all_packages, changed_item, had_package, has_item, item, outdated_item}

-- the package at the place isn't as it was
abbrev pub change_at : PlainProblem → ℕ → Literal
change_at problem place = if is_initial problem place then is_out place else is_in place

abbrev pub version_at : PlainProblem → ℕ → ℕ
version_at problem place = option_map_or (λ p. p.version) (package_at problem place) 0

abbrev pub is_version_at : PlainProblem → ℕ → ℕ → Bool
is_version_at problem version place = version_at problem place == version

-- the items of a name
abbrev pub name_items : PlainProblem → Count → List ℕ → List Item
name_items problem Removed name = if had_package problem name then has_item problem name ∷ [] else []
name_items problem New name = if had_package problem name then [] else has_item problem name ∷ []
name_items problem Changed name = changed_item problem name ∷ []
name_items problem NotUpToDate name = if is_empty (outdated_item problem name).some then [] else outdated_item problem name ∷ []
name_items problem UnsatRecommends name = []
name_items problem Touched name = []

-- the names of the first packages, each once
abbrev pub first_names : PlainProblem → ℕ → List (List ℕ)
first_names problem n = each_once (map (λ p. p.name) (take n problem.packages))

-- the item of a conjunct that the package at a place recommends
abbrev pub missed_by : PlainProblem → ℕ → List PlainAtom → List Item
missed_by problem place clause =
    if holds_place (filter (meets_clause_alone clause) (all_packages problem)) place then []
    else item (is_in place ∷ []) (one_of (meets_clause_alone clause) (all_packages problem)) ∷ []
