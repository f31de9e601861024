-- The table of classes, looked over once.
use Rattle.std.proofs.Common.{◌≡◌, ℕ, ◌+◌, ◌<◌, suc, Bool, true, false, not, ◌&&◌, nat_eq, List, [], ◌∷◌, length, get_or, bit_and, refl, sym, ap, ◌∙◌, arith}
use Rattle.std.proofs.lemmas.Bool.{and_parts}
use Rattle.std.specs.Prelude.{IsTrue, nat_lt}
use Rattle.std.proofs.lemmas.Bool.{ltb-true}
use Prim.Native.Nat.{zero}
use Rattle.cudf_text.specs.Promises.Classes.{is_in_class}
use Rattle.cudf_text.specs.Working.ClassBits.{class_bit}
use Rattle.cudf_text.specs.declared.scan.Class.{Class}
use Rattle.cudf_text.specs.declared.scan.Class.TheVariants.{Blank}
use Rattle.cudf_text.specs.declared.scan.TheConstants.{CLASSES}

abbrev pub same : Bool → Bool → Bool
same true b = b
same false b = not b

same-is : (a b : Bool) → same a b ≡ true → a ≡ b
same-is true b h = sym h
same-is false true h = absurd cc
same-is false false h = refl

abbrev pub has_bit : ℕ → ℕ → Bool
has_bit x bit = not (nat_eq (bit_and x bit) 0)

-- the numbers of the table have the bit just where the test holds of their places, which are counted from n
abbrev pub agrees : (ℕ → Bool) → ℕ → ℕ → List ℕ → Bool
agrees test bit n [] = true
agrees test bit n (x ∷ xs) = same (has_bit x bit) (test n) && agrees test bit (suc n) xs

pub agrees_at : (test : ℕ → Bool) (bit n : ℕ) (xs : List ℕ) → agrees test bit n xs ≡ true → (k : ℕ) → k < length xs → has_bit (get_or xs k 0) bit ≡ test (n + k)
agrees_at test bit n [] h k inside = absurd (omega arith)
agrees_at test bit n (x ∷ xs) h zero inside =
    let e : n ≡ n + 0 = omega arith in
    same-is (has_bit x bit) (test n) (and_parts _ _ h).0 ∙ ap test e
agrees_at test bit n (x ∷ xs) h (suc k) inside =
    let e : suc n + k ≡ n + suc k = omega arith in
    agrees_at test bit (suc n) xs (and_parts _ _ h).1 k (omega arith) ∙ ap test e

-- the whole table, for each class
all_agree : (class : Class) → agrees (is_in_class class) (class_bit class) 0 CLASSES ≡ true
all_agree Blank = refl
all_agree _ = refl

pub table_is : (class : Class) (bit b : ℕ) → bit ≡ class_bit class → b < 256 → has_bit (get_or CLASSES b 0) bit ≡ is_in_class class b
table_is class bit b is inside = ap (has_bit (get_or CLASSES b 0)) is ∙ agrees_at (is_in_class class) (class_bit class) 0 CLASSES (all_agree class) b inside ∙ (let e : 0 + b ≡ b = omega arith in ap (is_in_class class) e)

-- no other byte than those of ASCII is in a class
all_ascii : (class : Class) → agrees (λ b. is_in_class class b && nat_lt b 128) (class_bit class) 0 CLASSES ≡ true
all_ascii Blank = refl
all_ascii _ = refl

pub table_ascii : (class : Class) (bit b : ℕ) → bit ≡ class_bit class → b < 256 → IsTrue (has_bit (get_or CLASSES b 0) bit) → b < 128
table_ascii class bit b is inside has =
    let at = agrees_at (λ x. is_in_class class x && nat_lt x 128) (class_bit class) 0 CLASSES (all_ascii class) b inside in
    let e : 0 + b ≡ b = omega arith in
    let both : (is_in_class class b && nat_lt b 128) ≡ true =
    ap (λ x. is_in_class class x && nat_lt x 128) (sym e) ∙ sym at ∙ ap (has_bit (get_or CLASSES b 0)) (sym is) ∙ has in
    ltb-true b 128 (and_parts _ _ both).1
