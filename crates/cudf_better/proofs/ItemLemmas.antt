-- Items in memory.
use Rattle.std.proofs.Common.{◌≡◌, ℕ, zero, suc, ◌<◌, Bool, true, false, cond, List, [], ◌∷◌, ◌++◌, length, get_or, refl, sym, ap, ◌∙◌, arith}
use Rattle.std.proofs.lemmas.List.{get_or-map, length-map}
use Rattle.cudf_lrat.specs.declared.cnf.Literal.{Literal}
use Rattle.cudf_better.specs.Better.{Item, false_dnf, item, true_dnf}
use Rattle.cudf_better.specs.Working.Definitions.{formulas_of, items_of}

pub items_length : (some none : List (List Literal)) → length some ≡ length none → length (items_of some none) ≡ length some
items_length [] none e = refl
items_length (s ∷ some) [] e = absurd (omega arith)
items_length (s ∷ some) (n ∷ none) e = ap suc (items_length some none (omega arith))

pub items_push : (some none : List (List Literal)) (s n : List Literal) → length some ≡ length none → items_of (some ++ s ∷ []) (none ++ n ∷ []) ≡ items_of some none ++ item s n ∷ []
items_push [] [] s n e = refl
items_push [] (m ∷ none) s n e = absurd (omega arith)
items_push (t ∷ some) [] s n e = absurd (omega arith)
items_push (t ∷ some) (m ∷ none) s n e = ap (λ is. item t m ∷ is) (items_push some none s n (omega arith))

pub items_at : (some none : List (List Literal)) (i : ℕ) → length some ≡ length none → i < length some → get_or (items_of some none) i (item [] []) ≡ item (get_or some i []) (get_or none i [])
items_at [] none i e lt = absurd (omega arith)
items_at (s ∷ some) [] i e lt = absurd (omega arith)
items_at (s ∷ some) (n ∷ none) zero e lt = refl
items_at (s ∷ some) (n ∷ none) (suc i) e lt = items_at some none i (omega arith) (omega arith)

-- a formula
pub formula_at : (b is : Bool) (items : List Item) (i : ℕ) (some none : List Literal) → is ≡ b → i < length items → some ≡ (get_or items i (item [] [])).some → none ≡ (get_or items i (item [] [])).none
    → get_or (formulas_of is items) i [] ≡ cond b (true_dnf (item some none)) (false_dnf (item some none))
formula_at b is items i some none e lt a z =
    ap (λ (c : Bool). get_or (formulas_of c items) i []) e ∙ get_or-map (cond b true_dnf false_dnf) items i (item [] []) [] lt ∙ by b ∙ (λ j. cond b (true_dnf (item (sym a j) (sym z j))) (false_dnf (item (sym a j) (sym z j))))
  where
    by : (b : Bool) → cond b true_dnf false_dnf (get_or items i (item [] [])) ≡ cond b (true_dnf (get_or items i (item [] []))) (false_dnf (get_or items i (item [] [])))
    by true = refl
    by false = refl

pub formulas_length : (is : Bool) (items : List Item) → length (formulas_of is items) ≡ length items
formulas_length is items = length-map items (cond is true_dnf false_dnf)
