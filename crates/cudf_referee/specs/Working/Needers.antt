-- What is kept of which package needs another one, clause by clause and package by package (own).
use Rattle.std.specs.Prelude.{◌≡◌, ℕ, Bool, false, ◌&&◌, ◌==◌, nat_eq, List, [], ◌∷◌, find, Option, Some, None, is_some, option_map, option_and_then, if◌then◌else◌}
use Rattle.std.specs.Option.{option_or}
use Rattle.indexmap.specs.IndexMap.{get}
use Rattle.cudf_value.specs.Formulas.{PlainAtom}
use Rattle.cudf_index.specs.Satisfaction.{Placed, without, satisfies_atom, satisfies_clause}
use Rattle.cudf_index.specs.Working.Members.{is_other}
use Rattle.cudf_referee.specs.Explanations.{is_only}
use Rattle.cudf_referee.specs.declared.referee.needers.Needers.{Needers}

-- ---- the first packages of a status

-- the place of the first package that passes a test
abbrev pub first_passing : (Placed → Bool) → List Placed → Option ℕ
first_passing test status = option_map (λ p. p.0) (find test status)

-- the place is held, and isn't the one that is left out
abbrev pub holds_other : (ℕ → Bool) → Option ℕ → ℕ → Bool
holds_other holds except place = is_other except place && holds place

-- the first of all, less the one at this place, where the first and the first other one are these
abbrev pub first_beside : ℕ → Option ℕ → Option ℕ → Option ℕ
first_beside place None second = None
first_beside place (Some first) second = if first == place then second else Some first

-- ---- those that satisfy a clause

-- a package that alone satisfies the clause: the first that satisfies the first atom that one satisfies
abbrev pub some_satisfying : List Placed → List PlainAtom → Option ℕ
some_satisfying status [] = None
some_satisfying status (atom ∷ atoms) = option_or (first_passing (λ p. satisfies_atom (p ∷ []) atom) status) (some_satisfying status atoms)

-- the one that was found, unless another one satisfies the clause too
abbrev pub unless_other : List Placed → List PlainAtom → ℕ → Option ℕ
unless_other status clause found = if is_some (some_satisfying (without found status) clause) then None else Some found

abbrev pub only_satisfying : List Placed → List PlainAtom → Option ℕ
only_satisfying status clause = option_and_then (unless_other status clause) (some_satisfying status clause)

-- the place is the one that was found
abbrev pub is_named : ℕ → Option ℕ → Bool
is_named place None = false
is_named place (Some found) = found == place

-- a clause that the partners don't satisfy among them isn't satisfied by the package at this place alone
abbrev pub IsCovered : List Placed → List Placed → ℕ → Type 0
IsCovered status partners place = (clause : List PlainAtom) → satisfies_clause partners clause ≡ false → is_only status place clause ≡ false

-- ---- what is kept

-- the first package that needs the one at this place
abbrev pub kept_needer : ℕ → Needers → Option ℕ
kept_needer place kept = get nat_eq kept.first place

-- the first that needs it, where one more needs the package at `needed`
abbrev pub with_needer : ℕ → ℕ → ℕ → Option ℕ → Option ℕ
with_needer needer needed place kept = if needed == place then option_or kept (Some needer) else kept

-- the same, if there is one, and it is another package
abbrev pub with_other : ℕ → Option ℕ → ℕ → Option ℕ → Option ℕ
with_other needer None place kept = kept
with_other needer (Some needed) place kept = if needed == needer then kept else with_needer needer needed place kept

-- the same of each of some clauses
abbrev pub with_clauses : List Placed → ℕ → ℕ → List (List PlainAtom) → Option ℕ → Option ℕ
with_clauses status needer place [] kept = kept
with_clauses status needer place (clause ∷ clauses) kept = with_clauses status needer place clauses (with_other needer (only_satisfying status clause) place kept)
