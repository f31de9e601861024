-- Statuses hold places of the universe alone, and unknown stanzas ascend and lie outside it.
use Rattle.std.proofs.Common.{◌≡◌, ℕ, ◌+◌, ◌-◌, ◌<◌, ◌≤◌, ◌==◌, Bool, true, false, ◌&&◌, List, [], ◌∷◌, map, length, slice_get, Option, None, Some, filter_map, refl, arith, if◌then◌else◌, option_and_then}
use Rattle.std.proofs.lemmas.Bool.{eqb-false, lt-ltb, not_from_false}
use Rattle.std.proofs.lemmas.Option.{slice_get_within}
use Rattle.std.specs.List.{enumerate_from, cons_option}
use Rattle.std.specs.Option.{option_map_or}
use Rattle.cudf_text.specs.Stanzas.{PlainStanza}
use Rattle.cudf_problem.specs.Ids.{Id, is_among}
use Rattle.cudf_problem.specs.Universe.{PlainPackage, PlainProblem, package_id, package_at}
use Rattle.cudf_problem.specs.Statuses.{PlainUnknown, installed_id, unknown_of, unknown_stanzas, ascend_above}
use Rattle.cudf_problem.specs.Promises.Statuses.{are_outside}

-- a place with a package is one of the universe
pub within_universe : (test : PlainPackage → Bool) (problem : PlainProblem) (place : ℕ) → option_map_or test (package_at problem place) false ≡ true
    → (0 < place) × (place ≤ length problem.packages)
within_universe test problem place there = by (place == 0) refl there
  where
    found : (place == 0) ≡ false → (o : Option PlainPackage) → slice_get problem.packages (place - 1) ≡ o → option_map_or test o false ≡ true
        → (0 < place) × (place ≤ length problem.packages)
    found above None is h = absurd cc
    found above (Some p) is h =
        let ne : place ≡ 0 → ⊥ = eqb-false place 0 above in
        let inside : place - 1 < length problem.packages = slice_get_within problem.packages (place - 1) p is in
        (omega arith, omega arith)

    by : (b : Bool) → (place == 0) ≡ b → option_map_or test (if b then None else slice_get problem.packages (place - 1)) false ≡ true
        → (0 < place) × (place ≤ length problem.packages)
    by true is h = absurd cc
    by false is h = found is (slice_get problem.packages (place - 1)) refl h

-- ---- unknown stanzas

-- a stanza that installs the pair, where that isn't in the universe
abbrev pub unknown_with : PlainProblem → ℕ → ℕ → Id → Option PlainUnknown
unknown_with problem n line id = if is_among (map package_id problem.packages) id then None
    else Some (record { stanza = n; line = line; name = id.0; version = id.1 })

abbrev unknown_from : PlainProblem → ℕ → List PlainStanza → List PlainUnknown
unknown_from problem n stanzas = filter_map (unknown_of problem) (enumerate_from n stanzas)

ascending : (problem : PlainProblem) (m n : ℕ) (stanzas : List PlainStanza) → m < n → ascend_above m (unknown_from problem n stanzas) ≡ true
ascending problem m n [] lt = refl
ascending problem m n (s ∷ stanzas) lt = by (installed_id s) (ascending problem m (n + 1) stanzas (omega arith)) (ascending problem n (n + 1) stanzas (omega arith))
  where
    by : (o : Option Id) → ascend_above m (unknown_from problem (n + 1) stanzas) ≡ true → ascend_above n (unknown_from problem (n + 1) stanzas) ≡ true
        → ascend_above m (cons_option (option_and_then (unknown_with problem n s.line) o) (unknown_from problem (n + 1) stanzas)) ≡ true
    by None before after = before
    by (Some id) before after = at (is_among (map package_id problem.packages) (id.0, id.1))
      where
        at : (b : Bool) → ascend_above m (cons_option (if b then None else Some (record { stanza = n; line = s.line; name = id.0; version = id.1 }))
            (unknown_from problem (n + 1) stanzas)) ≡ true
        at true = before
        at false = λ i. lt-ltb m n lt i && after i

pub unknown_ascend : (problem : PlainProblem) (stanzas : List PlainStanza) → ascend_above 0 (unknown_stanzas problem stanzas) ≡ true
unknown_ascend problem stanzas = ascending problem 0 1 stanzas (omega arith)

outside : (problem : PlainProblem) (n : ℕ) (stanzas : List PlainStanza) → are_outside problem (unknown_from problem n stanzas) ≡ true
outside problem n [] = refl
outside problem n (s ∷ stanzas) = by (installed_id s) (outside problem (n + 1) stanzas)
  where
    by : (o : Option Id) → are_outside problem (unknown_from problem (n + 1) stanzas) ≡ true
        → are_outside problem (cons_option (option_and_then (unknown_with problem n s.line) o) (unknown_from problem (n + 1) stanzas)) ≡ true
    by None rest = rest
    by (Some id) rest = at (is_among (map package_id problem.packages) (id.0, id.1)) refl
      where
        at : (b : Bool) → is_among (map package_id problem.packages) (id.0, id.1) ≡ b
            → are_outside problem (cons_option (if b then None else Some (record { stanza = n; line = s.line; name = id.0; version = id.1 }))
            (unknown_from problem (n + 1) stanzas)) ≡ true
        at true is = rest
        at false is = λ i. not_from_false (is_among (map package_id problem.packages) (id.0, id.1)) is i && rest i

pub unknown_outside : (problem : PlainProblem) (stanzas : List PlainStanza) → are_outside problem (unknown_stanzas problem stanzas) ≡ true
unknown_outside problem stanzas = outside problem 1 stanzas
