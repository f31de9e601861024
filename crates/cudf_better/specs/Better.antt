-- That a proposed status compares better than another one, as cardinality constraints over the packages. Own.
use Rattle.std.specs.Prelude.{ℕ, ◌-◌, ◌==◌, Bool, true, false, not, List, [], ◌∷◌, ◌++◌, ◌+◌, length, map, filter, if◌then◌else◌}
use Rattle.std.specs.List.{enumerate_from, flat_map}
use Rattle.cudf_problem.specs.Documents.{is_empty}
use Rattle.cudf_problem.specs.Statuses.{is_initial}
use Rattle.cudf_problem.specs.Universe.{PlainProblem}
use Rattle.cudf_index.specs.Promises.Places.{is_named}
use Rattle.cudf_index.specs.Satisfaction.{Placed, meets_clause_alone, members}
use Rattle.cudf_job.specs.Aims.{count_row}
use Rattle.cudf_job.specs.declared.criteria.Aim.{Aim}
use Rattle.cudf_job.specs.declared.criteria.Sign.{Sign}
use Rattle.cudf_job.specs.declared.criteria.Sign.TheVariants.{Least, Most}
use Rattle.cudf_job.specs.declared.criteria.Count.{Count}
use Rattle.cudf_job.specs.declared.criteria.Count.TheVariants.{Removed, New, Changed, NotUpToDate, UnsatRecommends, Touched}
use Rattle.cudf_job.specs.declared.criteria.Criteria.{Criteria}
use Rattle.cudf_lrat.specs.declared.cnf.Literal.{Literal}
use Rattle.cudf_lrat.specs.Steps.{negated}
use Rattle.cudf_referee.specs.Criteria.{each_once, greatest, versions_of}
use Rattle.cudf_referee.specs.Proposals.{everything, recommended}
use Rattle.cudf_referee.specs.Violations.{has_package}
use Rattle.cudf_cnf.specs.Cnf.{clauses_of, cnf, is_in, is_out, one_of}
use Rattle.cudf_better.specs.Cardinality.{AtMost, Dnf, lexicographic_clauses}

-- ---- what is counted

-- true where one of some literals is, and none of others
pub record Item : Type 0 where
  pub some : List Literal
  pub none : List Literal

abbrev pub item : List Literal → List Literal → Item
item some none = record { some = some; none = none }

-- all packages, installed or not, each with its place
abbrev pub all_packages : PlainProblem → List Placed
all_packages problem = enumerate_from 1 problem.packages

-- the names of the packages, each once
abbrev pub names : PlainProblem → List (List ℕ)
names problem = each_once (map (λ p. p.1.name) (all_packages problem))

-- a package of the name was installed
abbrev pub had_package : PlainProblem → List ℕ → Bool
had_package problem name = has_package (members (is_initial problem) problem.packages) name

-- the package isn't as it was
abbrev pub changes : Placed → Literal
changes (place, p) = if p.installed then is_out place else is_in place

-- a package of the name is installed
abbrev pub has_item : PlainProblem → List ℕ → Item
has_item problem name = item (one_of (is_named name) (all_packages problem)) []

-- a package of the name isn't as it was
abbrev pub changed_item : PlainProblem → List ℕ → Item
changed_item problem name = item (map changes (filter (is_named name) (all_packages problem))) []

-- a package of the name is installed, and none of its greatest version
abbrev pub outdated_item : PlainProblem → List ℕ → Item
outdated_item problem name =
    let is_latest = λ (q : Placed). q.1.version == greatest (versions_of name (all_packages problem)) in
    let own = filter (is_named name) (all_packages problem) in
    item (one_of (λ q. not (is_latest q)) own) (one_of is_latest own)

-- for each conjunct that a package recommends: it is installed, and none that alone satisfies the conjunct. None where it does so itself
abbrev pub missed_items : PlainProblem → Placed → List Item
missed_items problem p =
    map (λ clause. item (is_in p.0 ∷ []) (one_of (meets_clause_alone clause) (all_packages problem))) (filter (λ clause. not (meets_clause_alone clause p)) (recommended (everything problem) p))

-- the items that a count counts; for `removed` those that it doesn't: a package of the name is installed
abbrev pub items : PlainProblem → Count → List Item
items problem Removed = map (has_item problem) (filter (had_package problem) (names problem))
items problem New = map (has_item problem) (filter (λ name. not (had_package problem name)) (names problem))
items problem Changed = map (changed_item problem) (names problem)
items problem NotUpToDate = filter (λ i. not (is_empty i.some)) (map (outdated_item problem) (names problem))
items problem UnsatRecommends = flat_map (missed_items problem) (all_packages problem)
items problem Touched = map (λ p. item (changes p ∷ []) []) (all_packages problem)

-- ---- cardinality constraints

-- the item is true, and isn't
abbrev pub true_dnf : Item → Dnf
true_dnf i = map (λ literal. literal ∷ map negated i.none) i.some

abbrev pub false_dnf : Item → Dnf
false_dnf i = map negated i.some ∷ map (λ literal. literal ∷ []) i.none

-- the count is of the items that are true
abbrev pub counts_true : Count → Bool
counts_true Removed = false
counts_true _ = true

-- that a count is at most n, under `+` at least n: at most as many items as there are beside n aren't counted
abbrev pub constraint_by : PlainProblem → Sign → Count → ℕ → AtMost
constraint_by problem Least count n = record { formulas = map (if counts_true count then true_dnf else false_dnf) (items problem count); bound = n }
constraint_by problem Most count n = record { formulas = map (if counts_true count then false_dnf else true_dnf) (items problem count); bound = length (items problem count) - n }

-- for each aim, that the count is no worse than this
abbrev pub constraints : PlainProblem → Criteria → List Aim → List AtMost
constraints problem counts aims = map (λ aim. constraint_by problem aim.sign aim.count ((count_row aim.count).1 counts)) aims

-- the clauses of the problem, and behind them that a status compares better than these counts by the aims
unfoldable pub better_clauses : PlainProblem → Criteria → List Aim → List (List Literal)
better_clauses problem counts aims = clauses_of (cnf problem) ++ lexicographic_clauses (length problem.packages + 1) [] (constraints problem counts aims)
