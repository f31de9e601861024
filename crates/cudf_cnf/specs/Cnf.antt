-- The rules of a problem as a CNF, over the places of its packages: a place is true where its package is installed. Own.
-- It is made instance by instance: a status satisfies the clauses of an instance exactly where it doesn't violate the instance.
-- No variable is needed beside the packages: a status satisfies a vpkg or a clause of `depends` where one of its packages
-- alone does, `true!` apart.
use Rattle.std.specs.Prelude.{ℕ, Bool, true, false, ◌&&◌, ◌||◌, nat_lt, List, [], ◌∷◌, ◌++◌, length, map, filter, Option, Some, None, if◌then◌else◌}
use Rattle.std.specs.List.{flat_map, enumerate_from}
use Rattle.std.specs.Option.{option_map_or}
use Rattle.cudf_value.specs.Formulas.{PlainAtom}
use Rattle.cudf_value.specs.Vpkgs.{PlainVpkg}
use Rattle.cudf_problem.specs.Ids.{Id}
use Rattle.cudf_problem.specs.Statuses.{is_initial}
use Rattle.cudf_problem.specs.Universe.{PlainProblem}
use Rattle.cudf_index.specs.Promises.Counts.{differ}
use Rattle.cudf_index.specs.Promises.Places.{is_named}
use Rattle.cudf_index.specs.Satisfaction.{Placed, meets_alone, members, numbers_of, without, meets_clause_alone}
use Rattle.cudf_job.specs.declared.key.Aspect.{Aspect}
use Rattle.cudf_job.specs.declared.key.Aspect.TheVariants.{Unsatisfied, Many, Lower}
use Rattle.cudf_job.specs.Keys.{PlainKey, part_place}
use Rattle.cudf_lrat.specs.declared.cnf.Literal.{Literal}
use Rattle.cudf_referee.specs.Instances.{PlainInstance, PlainWhat, needs, conflicts_with, keep_version, keep_package, keep_feature, install, remove, upgrade, unknown}
use Rattle.cudf_referee.specs.Proposals.{holds_place}
use Rattle.cudf_referee.specs.Violations.{are_lower, problem_instances}

-- ---- what clauses are made of

-- the package at the place is installed, and isn't
abbrev pub is_in : ℕ → Literal
is_in place = record { variable = place; positive = true }

abbrev pub is_out : ℕ → Literal
is_out place = record { variable = place; positive = false }

-- one of the packages that pass the test is installed
abbrev pub one_of : (Placed → Bool) → List Placed → List Literal
one_of test all = map (λ q. is_in q.0) (filter test all)

-- none of them is, or one of the literals holds: a clause for each
abbrev pub none_of : List Literal → (Placed → Bool) → List Placed → List (List Literal)
none_of literals test all = map (λ q. literals ++ is_out q.0 ∷ []) (filter test all)

-- ---- the clauses of an instance, by all packages of the problem and by those that were installed

-- depends: the package isn't installed, or one that alone satisfies the conjunct is; none where the package itself does
abbrev pub needs_clauses : List Placed → ℕ → List PlainAtom → List (List Literal)
needs_clauses all place clause =
    if holds_place (filter (meets_clause_alone clause) all) place then []
    else (is_out place ∷ one_of (meets_clause_alone clause) all) ∷ []

-- the package has the name of this pair
abbrev pub is_subject : Option Id → Placed → Bool
is_subject subject q = option_map_or (λ (name, version). is_named name q) subject false

-- upgrade, many: of two packages that give two different numbers of the name one isn't installed; nor is one that does so alone
abbrev pub differing_clauses : List Placed → List ℕ → Placed → List (List Literal)
differing_clauses all name p =
    (if differ name p p then (is_out p.0 ∷ []) ∷ [] else [])
    ++ none_of (is_out p.0 ∷ []) (λ q. nat_lt p.0 q.0 && differ name p q) all

abbrev pub upgrade_clauses : List Placed → List Placed → PlainVpkg → Option Aspect → List (List Literal)
upgrade_clauses all before v None = []
upgrade_clauses all before v (Some Unsatisfied) = one_of (meets_alone v) all ∷ []
upgrade_clauses all before v (Some Many) = flat_map (differing_clauses all v.name) all
upgrade_clauses all before v (Some Lower) = none_of [] (λ q. are_lower (numbers_of v.name before) (numbers_of v.name (q ∷ []))) all

abbrev pub what_clauses : List Placed → List Placed → PlainInstance → PlainWhat → List (List Literal)
what_clauses all before i (needs clause) = needs_clauses all (part_place i.key.part) clause
what_clauses all before i (conflicts_with v) = none_of (is_out (part_place i.key.part) ∷ []) (meets_alone v) (without (part_place i.key.part) all)
what_clauses all before i keep_version = (is_in (part_place i.key.part) ∷ []) ∷ []
what_clauses all before i keep_package = one_of (is_subject i.subject) all ∷ []
what_clauses all before i (keep_feature v) = one_of (meets_alone v) all ∷ []
what_clauses all before i (install v) = one_of (meets_alone v) all ∷ []
what_clauses all before i (remove v) = none_of [] (meets_alone v) all
what_clauses all before i (upgrade v) = upgrade_clauses all before v i.key.aspect
what_clauses all before i unknown = [] ∷ []

abbrev pub instance_clauses : PlainProblem → PlainInstance → List (List Literal)
instance_clauses problem i = what_clauses (enumerate_from 1 problem.packages) (members (is_initial problem) problem.packages) i i.what

-- ---- all of them

-- a clause beside the key of its instance
abbrev pub Keyed : Type 0
Keyed = PlainKey × List Literal

abbrev pub keyed_clauses : PlainProblem → PlainInstance → List Keyed
keyed_clauses problem i = map (λ clause. (i.key, clause)) (instance_clauses problem i)

-- the CNF of a problem, in key order, the clauses of one instance by their places
unfoldable pub cnf : PlainProblem → List Keyed
cnf problem = flat_map (keyed_clauses problem) (problem_instances problem)

-- the clauses without their keys
abbrev pub clauses_of : List Keyed → List (List Literal)
clauses_of keyed = map (λ c. c.1) keyed

-- it would have more variables or clauses than are counted here
abbrev pub is_too_large : PlainProblem → Bool
is_too_large problem = nat_lt 4294967295 (length problem.packages) || nat_lt 4294967295 (length (cnf problem))
