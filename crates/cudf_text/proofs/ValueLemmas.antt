-- A value grows by a text at its end.
use Rattle.std.proofs.Common.{◌≡◌, ℕ, ◌<◌, true, false, List, [], ◌∷◌, ◌++◌, length, refl, sym, ◌∙◌, ap, inl, inr, arith}
use Rattle.std.specs.Prelude.{nat_lt, ◌==◌}
use Rattle.std.specs.List.{join_with_byte}
use Rattle.std.proofs.lemmas.List.{append_assoc, append-nil, length-append, length_push}
use Rattle.std.proofs.lemmas.List.Elements.{filter-append}
use Rattle.std.proofs.lemmas.Bool.{cases_Bool, eqb-false, ne_eqb, lt-ltb}
use Rattle.cudf_text.specs.Promises.Borrows.{some_texts}
use Rattle.cudf_text.specs.Working.Tracked.{TrackedValue, joined}
use Rattle.cudf_text.specs.Working.Steps.{value_onto}

join-push : (x : List ℕ) (xs : List (List ℕ)) (text : List ℕ) → join_with_byte 32 (x ∷ xs ++ text ∷ []) ≡ join_with_byte 32 (x ∷ xs) ++ 32 ∷ text
join-push x [] text = refl
join-push x (y ∷ xs) text =
    ap (λ t. x ++ 32 ∷ t) (join-push y xs text) ∙ sym (append_assoc x (32 ∷ join_with_byte 32 (y ∷ xs)) (32 ∷ text))

join-some : (x : List ℕ) (xs : List (List ℕ)) → 0 < length x → 0 < length (join_with_byte 32 (x ∷ xs))
join-some x [] some = some
join-some x (y ∷ xs) some = rw (length-append x (32 ∷ join_with_byte 32 (y ∷ xs))) (omega arith)

some_texts-first : (texts : List (List ℕ)) (x : List ℕ) (xs : List (List ℕ)) → some_texts texts ≡ x ∷ xs → 0 < length x
some_texts-first [] x xs e = cc
some_texts-first (t ∷ texts) x xs e =
    elim (cases_Bool (length t == 0)) [
      | inl z ↦ some_texts-first texts x xs (rw z at e)
      | inr z ↦
          let same = rw z at e in
          let h : t ≡ x = cc in
          let ne = eqb-false (length t) 0 z in
          rw (← h) (omega (arith, ne))
    ]

abbrev value_of : List (List ℕ) → TrackedValue
value_of some = record { bytes = join_with_byte 32 some; owned = nat_lt 1 (length some) }

value_of-push : (some : List (List ℕ)) (text : List ℕ) → ((x : List ℕ) (xs : List (List ℕ)) → some ≡ x ∷ xs → 0 < length x) → (length text == 0) ≡ false
    → value_of (some ++ text ∷ []) ≡ value_onto (value_of some) text
value_of-push [] text first z = rw z refl
value_of-push (x ∷ xs) text first z =
    let some : 0 < length (join_with_byte 32 (x ∷ xs)) = join-some x xs (first x xs refl) in
    let y : (length (join_with_byte 32 (x ∷ xs)) == 0) ≡ false = ne_eqb _ 0 (λ e. omega arith) in
    let b = join-push x xs text in
    let o : nat_lt 1 (length (x ∷ xs ++ text ∷ [])) ≡ true = lt-ltb 1 _ (omega (arith, length_push xs text)) in
    rw (z, y) (λ i. let v : TrackedValue = record { bytes = b i; owned = o i } in v)

-- one more text at the end is put onto the value
pub joined-push : (texts : List (List ℕ)) (text : List ℕ) → joined (texts ++ text ∷ []) ≡ value_onto (joined texts) text
joined-push texts text =
    let parts : some_texts (texts ++ text ∷ []) ≡ some_texts texts ++ some_texts (text ∷ []) = filter-append _ texts (text ∷ []) in
    elim (cases_Bool (length text == 0)) [
      | inl z ↦ rw parts (rw z (rw (append-nil (some_texts texts)) refl))
      | inr z ↦
          let one : some_texts (text ∷ []) ≡ text ∷ [] = rw z refl in
          ap value_of (parts ∙ ap (λ last. some_texts texts ++ last) one) ∙ value_of-push (some_texts texts) text (some_texts-first texts) z
    ]

pub joined-one : (text : List ℕ) → let v : TrackedValue = record { bytes = text; owned = false } in joined (text ∷ []) ≡ v
joined-one [] = refl
joined-one (b ∷ bs) = rw (ne_eqb (length (b ∷ bs)) 0 (λ e. omega arith)) refl
