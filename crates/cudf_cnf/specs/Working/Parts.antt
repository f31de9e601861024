-- Clauses as the code puts them: by places, and by the greatest number before.
use Rattle.std.specs.Prelude.{◌≡◌, ◌<◌, ◌≤◌, ◌^◌, ℕ, Bool, true, false, not, ◌&&◌, ◌==◌, nat_lt, List, [], ◌∷◌, ◌++◌, map, All, Option, Some, None, if◌then◌else◌}
use Rattle.std.specs.List.{list_any}
use Rattle.cudf_value.specs.declared.vpkg.Relop.TheVariants.{Lt}
use Rattle.cudf_problem.specs.Statuses.{is_initial}
use Rattle.cudf_problem.specs.Universe.{PlainProblem}
use Rattle.cudf_index.specs.Promises.Places.{at, gives_number, numbers_at, places_where}
use Rattle.cudf_index.specs.Satisfaction.{Placed, members, numbers_of}
use Rattle.cudf_job.specs.declared.key.Aspect.{Aspect}
use Rattle.cudf_job.specs.declared.key.Aspect.TheVariants.{Many}
use Rattle.cudf_job.specs.Keys.{PlainKey}
use Rattle.cudf_lrat.specs.declared.cnf.Literal.{Literal}
use Rattle.cudf_referee.specs.Instances.{PlainInstance, PlainWhat, upgrade}
use Rattle.cudf_referee.specs.Promises.Before.{AreGreatest}
use Rattle.cudf_referee.specs.Violations.{are_many}
use Rattle.cudf_cnf.specs.Cnf.{Keyed, is_out, none_of}

-- ---- places

-- a place of a CNF over places from 1 to a number, that is one of a `u32`
pub record IsPlace (places : ℕ) (n : ℕ) : Type 0 where
  pub from_one : 0 < n
  pub within : n ≤ places
  pub small : n < 2 ^ 32

abbrev pub ArePlaces : ℕ → List ℕ → Type 0
ArePlaces places numbers = All (IsPlace places) numbers

-- the packages are those of places that the CNF has
abbrev pub Fits : ℕ → List Placed → Type 0
Fits places all = ArePlaces places (map (λ q. q.0) all)

-- the package is the one at its place
abbrev pub IsAt : List Placed → Placed → Type 0
IsAt all p = at p.0 all ≡ p ∷ []

-- ---- instances

-- it is `many` of an entry of `upgrade`, the one kind that may have far more clauses than there are packages
abbrev pub is_many_what : PlainWhat → Option Aspect → Bool
is_many_what (upgrade v) (Some Many) = true
is_many_what what aspect = false

abbrev pub is_many : PlainInstance → Bool
is_many i = is_many_what i.what i.key.aspect

-- ---- clauses

-- clauses, each beside this key
abbrev pub keyed : PlainKey → List (List Literal) → List Keyed
keyed key clauses = map (λ clause. (key, clause)) clauses

-- the package gives another number of the name than one of these
abbrev pub differs_from : List ℕ → List ℕ → Placed → Bool
differs_from name numbers q = list_any (λ m. list_any (λ n. not (m == n)) (numbers_of name (q ∷ []))) numbers

-- upgrade, many: those of the package at a place
abbrev pub differing_at : List Placed → List ℕ → ℕ → List (List Literal)
differing_at all name place =
    (if are_many (numbers_at name place all) then (is_out place ∷ []) ∷ [] else [])
    ++ map (λ n. is_out place ∷ is_out n ∷ []) (places_where (λ q. nat_lt place q.0 && differs_from name (numbers_at name place all) q) all)

-- the packages that give a number of the name, where some differ
abbrev pub givers_of : List Placed → List ℕ → List ℕ
givers_of all name = if are_many (numbers_of name all) then places_where (gives_number name None) all else []

-- of each entry of `upgrade`, the greatest number of its name before
abbrev pub AreBefore : PlainProblem → List (Option ℕ) → Type 0
AreBefore problem before = AreGreatest (members (is_initial problem) problem.packages) problem.request.upgrade before

-- upgrade, lower: by the greatest number before, if there was one
abbrev pub lower_by : List Placed → List ℕ → Option ℕ → List (List Literal)
lower_by all name None = []
lower_by all name (Some greatest) = none_of [] (gives_number name (Some (Lt, greatest))) all
