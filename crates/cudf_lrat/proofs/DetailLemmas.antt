-- Lines one after another, and lines that are texts.
use Rattle.std.proofs.Common.{◌≡◌, ℕ, zero, suc, ◌-◌, Bool, true, false, not, ◌||◌, ◌&&◌, List, ◌∷◌, take, refl, sym, ap, ◌∙◌, arith}
use Rattle.std.specs.List.{list_all, list_any}
use Rattle.std.specs.Str.{IsUtf8, is_utf8}
use Rattle.std.proofs.lemmas.Str.{IsUtf8-from_is_utf8, is_utf8-from_IsUtf8}
use Rattle.cudf_lrat.specs.Details.{is_binary, is_binary_byte}

-- a list after its first element
pub all-behind : {X : Type 0} (test : X → Bool) (all : List X) (x : X) (xs : List X) (n : ℕ) → all ≡ x ∷ xs → (n ≡ 0 → ⊥) → list_all test (take n all) ≡ (test x && list_all test (take (n - 1) xs))
all-behind test all x xs zero is some = absurd (some refl)
all-behind test all x xs (suc n) is some = let same : n ≡ suc n - 1 = omega arith in ap (λ ys. list_all test (take (suc n) ys)) is ∙ ap (λ k. test x && list_all test (take k xs)) same

-- a line of UTF-8 is binary by its bytes
pub binary-text : (line : List ℕ) → IsUtf8 line → list_any is_binary_byte line ≡ is_binary line
binary-text line text = ap (λ utf8. not utf8 || list_any is_binary_byte line) (sym (is_utf8-from_IsUtf8 line text))

pub binary-other : (line : List ℕ) → ¬ (IsUtf8 line) → is_binary line ≡ true
binary-other line other = by (is_utf8 line) refl
  where
    by : (utf8 : Bool) → is_utf8 line ≡ utf8 → (not utf8 || list_any is_binary_byte line) ≡ true
    by true is = absurd (other (IsUtf8-from_is_utf8 line is))
    by false is = refl
