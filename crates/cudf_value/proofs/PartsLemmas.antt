-- Reading the parts of a text one by one.
use Rattle.std.proofs.Common.{◌≡◌, ℕ, ◌+◌, ◌≤◌, Bool, true, false, cond, ◌==◌, nat_lt, List, [], ◌∷◌, ◌++◌, length, take, drop, map, position, Option, Some, None, option_map, refl, ap, sym, ◌∙◌, arith}
use Rattle.std.specs.List.{position_or_len}
use Rattle.std.proofs.lemmas.Bool.{ltb-true, ltb-false}
use Rattle.std.proofs.lemmas.Option.{cond_some}
use Rattle.std.proofs.lemmas.List.{map_push, append_assoc}
use Rattle.std.proofs.lemmas.List.Elements.{All-from_get_or}
use Rattle.std.proofs.lemmas.List.Sums.{fails_before_first}
use Rattle.std.proofs.lemmas.List.Splits.{slice_split_first, slice_split_none}
use Rattle.cudf_value.specs.Parts.{all_some, parts}

-- the values of what was read, and of what is left
abbrev pub onto : {A : Type 0} → List A → Option (List A) → Option (List A)
onto done rest = option_map (λ more. done ++ more) rest

onto-onto : {A : Type 0} (xs : List A) (y : A) (rest : Option (List A)) → onto (xs ++ y ∷ []) rest ≡ onto xs (option_map (λ ys. y ∷ ys) rest)
onto-onto xs y None = refl
onto-onto xs y (Some ys) = ap Some (append_assoc xs (y ∷ []) ys)

-- one more value is read from the texts that are left
pub read_step : {A X : Type 0} (view : X → A) (read : List ℕ → Option A) (all : Option (List A)) (done : List X) (x : X) (text : List ℕ) (more : List (List ℕ))
    → onto (map view done) (all_some (map read (text ∷ more))) ≡ all → Some (view x) ≡ read text
    → onto (map view (done ++ x ∷ [])) (all_some (map read more)) ≡ all
read_step view read all done x text more so_far is =
    let value : all_some (read text ∷ map read more) ≡ option_map (λ ys. view x ∷ ys) (all_some (map read more)) = rw (← is) refl in
    ap (λ xs. onto xs (all_some (map read more))) (map_push view done x)
    ∙ onto-onto (map view done) (view x) (all_some (map read more))
    ∙ ap (onto (map view done)) (sym value)
    ∙ so_far

-- a separator is found: the first part comes before it
pub split_found : (separator : ℕ) (text : List ℕ) (n : ℕ) → position (λ b. b == separator) text ≡ Some n
    → parts separator text ≡ take n text ∷ parts separator (drop (n + 1) text)
split_found separator text n found =
    let at = cond_some (nat_lt (position_or_len (λ b. b == separator) text) (length text)) _ n found in
    rw (sym at.1) (slice_split_first (λ b. b == separator) text 0 (ltb-true _ _ at.0))

pub cond_none : (test : Bool) (x : ℕ) → cond test (Some x) None ≡ None → test ≡ false
cond_none true x e = cc
cond_none false x e = refl

-- no separator is found: the text is the one part
pub split_none : (separator : ℕ) (text : List ℕ) → position (λ b. b == separator) text ≡ None → parts separator text ≡ text ∷ []
split_none separator text none =
    let all : length text ≤ position_or_len (λ b. b == separator) text = ltb-false _ _ (cond_none (nat_lt (position_or_len (λ b. b == separator) text) (length text)) _ none) in
    slice_split_none (λ b. b == separator) text
    (All-from_get_or (λ b. (b == separator) ≡ false) text 0 (λ i inside. fails_before_first (λ b. b == separator) text i 0 (omega arith)))
