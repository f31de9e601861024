-- What a proposed status changes and lacks, counted: the criteria of the MISC competition.
-- Own: changes are counted by name, recommended conjuncts by place.
use Rattle.std.specs.Prelude.{ℕ, ◌==◌, Bool, not, ◌&&◌, List, [], ◌∷◌, map, filter, length, max, min, bytes_eq, if◌then◌else◌}
use Rattle.std.specs.List.{list_any, list_all, flat_map, count_by, enumerate_from}
use Rattle.cudf_index.specs.Satisfaction.{Placed, satisfies_clause}
use Rattle.cudf_job.specs.declared.criteria.Criteria.{Criteria}
use Rattle.cudf_referee.specs.Proposals.{Proposal, holds_place, recommended}
use Rattle.cudf_referee.specs.Violations.{has_package}

-- ---- names and versions

-- the packages of the universe, each with its place
abbrev pub universe : Proposal → List Placed
universe s = enumerate_from 1 s.problem.packages

-- the names, each once
abbrev pub each_once : List (List ℕ) → List (List ℕ)
each_once [] = []
each_once (name ∷ names) = name ∷ filter (λ other. not (bytes_eq name other)) (each_once names)

-- the versions of the packages of a name
abbrev pub versions_of : List ℕ → List Placed → List ℕ
versions_of name packages = map (λ (place, p). p.version) (filter (λ (place, p). bytes_eq p.name name) packages)

abbrev pub is_number_among : List ℕ → ℕ → Bool
is_number_among numbers n = list_any (λ m. m == n) numbers

-- each number of one is among those of the other
abbrev pub is_same_set : List ℕ → List ℕ → Bool
is_same_set xs ys = list_all (is_number_among ys) xs && list_all (is_number_among xs) ys

-- the greatest of the numbers, 0 where there are none
abbrev pub greatest : List ℕ → ℕ
greatest [] = 0
greatest (n ∷ ns) = max n (greatest ns)

-- ---- what is counted

-- names with a package that was installed, and none that is to be
abbrev pub is_removed : Proposal → List ℕ → Bool
is_removed s name = has_package s.initial name && not (has_package s.proposed name)

-- names with a package that is to be installed, and none that was
abbrev pub is_new : Proposal → List ℕ → Bool
is_new s name = has_package s.proposed name && not (has_package s.initial name)

-- names whose set of installed versions differs
abbrev pub is_changed : Proposal → List ℕ → Bool
is_changed s name = not (is_same_set (versions_of name s.initial) (versions_of name s.proposed))

-- names with a package that is to be installed, but not their greatest version in the universe
abbrev pub is_not_up_to_date : Proposal → List ℕ → Bool
is_not_up_to_date s name =
    has_package s.proposed name
    && not (is_number_among (versions_of name s.proposed) (greatest (versions_of name (universe s))))

-- packages that are to be installed, each by its name and version, with the place of a conjunct of what it recommends
-- that the proposed status doesn't satisfy
abbrev pub unsatisfied_recommends : Proposal → List (List ℕ × ℕ × ℕ)
unsatisfied_recommends s =
    flat_map (λ (place, p). map (λ c. (p.name, p.version, c.0)) (filter (λ c. not (satisfies_clause s.proposed c.1)) (enumerate_from 1 (recommended s (place, p))))) s.proposed

-- packages that are in one of the two statuses and not in the other; the name is own
abbrev pub is_touched : Proposal → Placed → Bool
is_touched s (place, p) = if holds_place s.initial place then not (holds_place s.proposed place) else holds_place s.proposed place

-- ---- the counts

-- the number, or 18446744073709551615 where it is greater
abbrev pub at_most_max : ℕ → ℕ
at_most_max n = min n 18446744073709551615

-- how many names of the universe, each once, pass a test
abbrev pub count_names : (List ℕ → Bool) → Proposal → ℕ
count_names test s = at_most_max (count_by test (each_once (map (λ (place, p). p.name) (universe s))))

unfoldable pub criteria : Proposal → Criteria
criteria s = record {
  removed = count_names (is_removed s) s;
  new = count_names (is_new s) s;
  changed = count_names (is_changed s) s;
  notuptodate = count_names (is_not_up_to_date s) s;
  unsat_recommends = at_most_max (length (unsatisfied_recommends s));
  touched = at_most_max (count_by (is_touched s) (universe s));
}
