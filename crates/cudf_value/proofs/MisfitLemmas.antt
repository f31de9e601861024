-- The first entry of a list that is none.
use Rattle.std.proofs.Common.{◌≡◌, ℕ, ◌+◌, Bool, true, false, not, ◌&&◌, List, [], ◌∷◌, map, position, Option, Some, None, is_some, option_map, refl, ap, sym, ◌∙◌}
use Rattle.std.specs.List.{list_all, position_from}
use Rattle.std.specs.Option.{option_map_or}
use Rattle.std.specs.Prelude.{option_and_then}
use Rattle.std.proofs.lemmas.Iterator.Adapters.{position_from-zero}
use Rattle.std.specs.Str.{byte}
use Rattle.cudf_value.specs.Parts.{all_some, look_up, parts}
use Rattle.cudf_value.specs.Misfits.{entry_tests, first_failing, misfit}
use Rattle.cudf_value.proofs.AtomLemmas.{is_some-map}

-- an entry as the code tests it
abbrev pub passes : List ℕ → List ℕ → Bool
passes word text = option_map_or (λ test. test text) (look_up word entry_tests) true

-- there are values of all texts where there is one of each
pub all_read : {A : Type 0} (read : List ℕ → Option A) (texts : List (List ℕ)) → list_all (λ text. is_some (read text)) texts ≡ is_some (all_some (map read texts))
all_read read [] = refl
all_read {A = A} read (text ∷ texts) = by (read text) (all_read read texts)
  where
    by : (value : Option A) → list_all (λ text. is_some (read text)) texts ≡ is_some (all_some (map read texts))
        → (is_some value && list_all (λ text. is_some (read text)) texts) ≡ is_some (all_some (value ∷ map read texts))
    by None others = refl
    by (Some value) others = others ∙ sym (is_some-map (λ values. value ∷ values) (all_some (map read texts)))

-- a test that all pass has no first failure
none_fails : {A : Type 0} (i : ℕ) (texts : List A) → position_from (λ text. false) i texts ≡ None
none_fails i [] = refl
none_fails i (text ∷ texts) = none_fails (i + 1) texts

-- what fails first, where each text passes if there is no test
untested : (test : Option (List ℕ → Bool)) (texts : List (List ℕ))
    → option_and_then (λ t. first_failing t texts) test ≡ first_failing (λ text. option_map_or (λ t. t text) test true) texts
untested None texts = sym (ap (option_map (λ n. n + 1)) (position_from-zero (λ text. false) texts ∙ none_fails 0 texts))
untested (Some test) texts = refl

-- the misfit is counted from 1, where the code counts from 0
pub misfit_found : (word text : List ℕ) (index : Option ℕ) → index ≡ position (λ part. not (passes word part)) (parts (byte ",") text)
    → option_map (λ n. n + 1) index ≡ misfit word text
unfolding misfit
misfit_found word text index found = ap (option_map (λ n. n + 1)) found ∙ sym (untested (look_up word entry_tests) (parts (byte ",") text))
