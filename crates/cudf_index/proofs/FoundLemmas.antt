-- The row of a key.
use Rattle.std.proofs.Common.{◌≡◌, ℕ, ◌+◌, ◌<◌, suc, Bool, true, false, cond, List, [], ◌∷◌, ◌++◌, length, get_or, Option, Some, None, refl, sym, ap, ◌∙◌, arith, nat_lt, bytes_eq, not, Bor, subst}
use Rattle.std.proofs.Math.ListN.{set}
use Rattle.std.specs.Prelude.{option_and_then, position, slice_get}
use Rattle.std.specs.List.{position_or_len, list_any}
use Rattle.indexmap.specs.IndexSet.{insert_key}
use Rattle.std.proofs.lemmas.Bool.{lt-ltb, true≢false, false_from_ne_true, not-true}
use Rattle.std.proofs.lemmas.Bool.Decides.{nat_tests}
use Rattle.std.proofs.lemmas.List.{append-nil}
use Rattle.std.proofs.lemmas.Slice.Eq.{bytes_eq-Decides}
use Rattle.cudf_index.specs.Satisfaction.{Placed}
use Rattle.cudf_index.specs.declared.index.gathered_names.Provision.{Provision}
use Rattle.cudf_index.specs.Working.Kept.{found}
use Rattle.cudf_index.specs.Working.Gathering.{row_items}

module _ {K R : Type 0} (test : K → Bool) where
  nothing : (o : Option ℕ) → None ≡ option_and_then (slice_get {X = R} []) o
  nothing None = refl
  nothing (Some i) = refl

  -- what is at the place of the key
  pub found_at : (keys : List K) (rows : List R) → found test keys rows ≡ option_and_then (slice_get rows) (position test keys)
  found_at [] rows = refl
  found_at (k ∷ ks) [] = nothing (position test (k ∷ ks))
  found_at (k ∷ ks) (r ∷ rs) = by (test k) (found_at ks rs)
    where
      next : (p n : ℕ) → nat_lt (1 + p) (suc n) ≡ nat_lt p n
      next p n = grind (arith, nat_tests)

      moved : (b : Bool) (p : ℕ) → option_and_then (slice_get rs) (cond b (Some p) None) ≡ option_and_then (slice_get (r ∷ rs)) (cond b (Some (1 + p)) None)
      moved false p = refl
      moved true p = ap (slice_get (r ∷ rs)) {x = suc p} {y = 1 + p} (omega arith)

      by : (b : Bool) → found test ks rs ≡ option_and_then (slice_get rs) (position test ks)
          → cond b (Some r) (found test ks rs) ≡ option_and_then (slice_get (r ∷ rs)) (cond (nat_lt (cond (not b) (1 + position_or_len test ks) 0) (suc (length ks))) (Some (cond (not b) (1 + position_or_len test ks) 0)) None)
      by true rest = ap (λ b. option_and_then (slice_get (r ∷ rs)) (cond b (Some 0) None)) (sym (lt-ltb 0 (suc (length ks)) (omega arith)))
      by false rest =
          rest ∙ moved (nat_lt (position_or_len test ks) (length ks)) (position_or_len test ks)
          ∙ ap (λ b. option_and_then (slice_get (r ∷ rs)) (cond b (Some (1 + position_or_len test ks)) None)) (sym (next (position_or_len test ks) (length ks)))

-- what is read at the place of a name is what is kept of it
pub keeps_read : {E : Type 0} (Keeps : List ℕ → List Placed → Option E → Type 0) (name : List ℕ) (status now : List Placed) (keys : List (Bor (List ℕ))) (entries : List E) (at : Option ℕ) (kept : Option E)
    → status ≡ now → at ≡ position (λ k. bytes_eq name k.now) keys → kept ≡ option_and_then (slice_get entries) at
    → Keeps name status (found (λ k. bytes_eq name k.now) keys entries) → Keeps name now kept
keeps_read Keeps name status now keys entries at kept view same read keeps =
    subst (λ s. Keeps name s kept) view (subst (Keeps name status) (found_at (λ k. bytes_eq name k.now) keys entries ∙ sym (read ∙ ap (option_and_then (slice_get entries)) same)) keeps)

-- a row without provisions is as none
pub row_push : (test : Bor (List ℕ) → Bool) (keys : List (Bor (List ℕ))) (rows : List (List Provision)) (k : Bor (List ℕ)) (r : List Provision) → length rows ≡ length keys → r ≡ []
    → row_items (found test (keys ++ k ∷ []) (rows ++ r ∷ [])) ≡ row_items (found test keys rows)
row_push test [] [] k r same none = by (test k)
  where
    by : (b : Bool) → row_items (cond b (Some r) None) ≡ []
    by true = none
    by false = refl
row_push test [] (r' ∷ rs) k r same none = absurd (omega arith)
row_push test (k' ∷ ks) [] k r same none = absurd (omega arith)
row_push test (k' ∷ ks) (r' ∷ rs) k r same none = by (test k') (row_push test ks rs k r (omega arith) none)
  where
    by : (b : Bool) → row_items (found test (ks ++ k ∷ []) (rs ++ r ∷ [])) ≡ row_items (found test ks rs) → row_items (cond b (Some r') (found test (ks ++ k ∷ []) (rs ++ r ∷ []))) ≡ row_items (cond b (Some r') (found test ks rs))
    by true rest = refl
    by false rest = rest

pub same_text : (a b : List ℕ) → bytes_eq a b ≡ true → a ≡ b
same_text a b e = (bytes_eq-Decides a b).0 e

pub text_same : (a b : List ℕ) → a ≡ b → bytes_eq a b ≡ true
text_same a b e = (bytes_eq-Decides a b).1 e

-- one provision more in the row of a name
pub row_set : (name f : List ℕ) (keys : List (Bor (List ℕ))) (rows : List (List Provision)) (r d : List Provision) (p : Provision) → length rows ≡ length keys
    → position_or_len (λ k. bytes_eq name k.now) keys < length keys → r ≡ (get_or rows (position_or_len (λ k. bytes_eq name k.now) keys) d) ++ p ∷ []
    → row_items (found (λ k. bytes_eq f k.now) keys (set rows (position_or_len (λ k. bytes_eq name k.now) keys) r)) ≡ row_items (found (λ k. bytes_eq f k.now) keys rows) ++ cond (bytes_eq name f) (p ∷ []) []
row_set name f [] rows r d p same within more = absurd (omega arith)
row_set name f (k ∷ ks) [] r d p same within more = absurd (omega arith)
row_set name f (k ∷ ks) (r' ∷ rs) r d p same within more = by (bytes_eq name k.now) refl within more (row_set name f ks rs r d p (omega arith))
  where
    abbrev_row : List (List Provision) → List Provision
    abbrev_row rows = row_items (found (λ j. bytes_eq f j.now) ks rows)

    kept : (rest : List (List Provision)) → bytes_eq name f ≡ false → abbrev_row rs ≡ abbrev_row rs ++ cond (bytes_eq name f) (p ∷ []) []
    kept rest e = sym (append-nil (abbrev_row rs)) ∙ ap (λ b. abbrev_row rs ++ cond b (p ∷ []) []) (sym e)

    here : (b : Bool) → bytes_eq f k.now ≡ b → bytes_eq name k.now ≡ true → r ≡ r' ++ p ∷ []
        → row_items (cond b (Some r) (found (λ j. bytes_eq f j.now) ks rs)) ≡ row_items (cond b (Some r') (found (λ j. bytes_eq f j.now) ks rs)) ++ cond (bytes_eq name f) (p ∷ []) []
    here true e own items = items ∙ ap (λ b. r' ++ cond b (p ∷ []) []) (sym (text_same name f (same_text name k.now own ∙ sym (same_text f k.now e))))
    here false e own items = kept rs (false_from_ne_true (bytes_eq name f) (λ g. true≢false (sym (text_same f k.now (sym (same_text name f g) ∙ same_text name k.now own)) ∙ e)))

    later : (b : Bool) (rest : List (List Provision)) → bytes_eq f k.now ≡ b → bytes_eq name k.now ≡ false → abbrev_row rest ≡ abbrev_row rs ++ cond (bytes_eq name f) (p ∷ []) []
        → row_items (cond b (Some r') (found (λ j. bytes_eq f j.now) ks rest)) ≡ row_items (cond b (Some r') (found (λ j. bytes_eq f j.now) ks rs)) ++ cond (bytes_eq name f) (p ∷ []) []
    later false rest e other done = done
    later true rest e other done =
        sym (append-nil r') ∙ ap (λ b. r' ++ cond b (p ∷ []) []) (sym (false_from_ne_true (bytes_eq name f) (λ g. true≢false (sym (text_same name k.now (same_text name f g ∙ same_text f k.now e)) ∙ other))))

    by : (b : Bool) → bytes_eq name k.now ≡ b → cond (not b) (1 + position_or_len (λ j. bytes_eq name j.now) ks) 0 < suc (length ks)
        → r ≡ (get_or (r' ∷ rs) (cond (not b) (1 + position_or_len (λ j. bytes_eq name j.now) ks) 0) d) ++ p ∷ []
        → (position_or_len (λ j. bytes_eq name j.now) ks < length ks → r ≡ (get_or rs (position_or_len (λ j. bytes_eq name j.now) ks) d) ++ p ∷ []
        → abbrev_row (set rs (position_or_len (λ j. bytes_eq name j.now) ks) r) ≡ abbrev_row rs ++ cond (bytes_eq name f) (p ∷ []) [])
        → row_items (found (λ j. bytes_eq f j.now) (k ∷ ks) (set (r' ∷ rs) (cond (not b) (1 + position_or_len (λ j. bytes_eq name j.now) ks) 0) r)) ≡ row_items (found (λ j. bytes_eq f j.now) (k ∷ ks) (r' ∷ rs)) ++ cond (bytes_eq name f) (p ∷ []) []
    by true e low items rest = here (bytes_eq f k.now) refl e items
    by false e low items rest =
        let one : 1 + position_or_len (λ j. bytes_eq name j.now) ks ≡ suc (position_or_len (λ j. bytes_eq name j.now) ks) = omega arith in
        rw one (later (bytes_eq f k.now) (set rs (position_or_len (λ j. bytes_eq name j.now) ks) r) refl e
        (rest (omega arith) (rw one at items)))

-- the same, where the number is the place of the name
pub row_grown : (name f : List ℕ) (keys : List (Bor (List ℕ))) (rows : List (List Provision)) (n : ℕ) (old r : List Provision) (p : Provision) → length rows ≡ length keys
    → n ≡ position_or_len (λ k. bytes_eq name k.now) keys → n < length keys → old ≡ get_or rows n old → r ≡ old ++ p ∷ []
    → row_items (found (λ k. bytes_eq f k.now) keys (set rows n r)) ≡ row_items (found (λ k. bytes_eq f k.now) keys rows) ++ cond (bytes_eq name f) (p ∷ []) []
row_grown name f keys rows n old r p same at within is more =
    ap (λ m. row_items (found (λ k. bytes_eq f k.now) keys (set rows m r))) at
    ∙ row_set name f keys rows r old p same (omega arith) (more ∙ ap (λ v. v ++ p ∷ []) (is ∙ ap (λ m. get_or rows m old) at))

-- a new name
pub row_new : (f : List ℕ) (keys now : List (Bor (List ℕ))) (rows grown : List (List Provision)) (k : Bor (List ℕ)) (r : List Provision) (is_new : Bool) → length rows ≡ length keys
    → is_new ≡ not (list_any (λ j. bytes_eq k.now j.now) keys) → is_new ≡ true → now ≡ insert_key (λ x y. bytes_eq x.now y.now) keys k → grown ≡ rows ++ r ∷ [] → r ≡ []
    → row_items (found (λ j. bytes_eq f j.now) now grown) ≡ row_items (found (λ j. bytes_eq f j.now) keys rows)
row_new f keys now rows grown k r is_new same told fresh inserted pushed none =
    let unknown = not-true (list_any (λ j. bytes_eq k.now j.now) keys) (sym told ∙ fresh) in
    ap (λ ks. row_items (found (λ j. bytes_eq f j.now) ks grown)) (inserted ∙ ap (λ b. cond b keys (keys ++ k ∷ [])) unknown)
    ∙ ap (λ rs. row_items (found (λ j. bytes_eq f j.now) (keys ++ k ∷ []) rs)) pushed
    ∙ row_push (λ j. bytes_eq f j.now) keys rows k r same none

-- the provisions at the place of a name are those of its row
pub row_found : (name : List ℕ) (keys : List (Bor (List ℕ))) (rows : List (List Provision)) (at : Option ℕ) → at ≡ position (λ k. bytes_eq name k.now) keys
    → row_items (option_and_then (slice_get rows) at) ≡ row_items (found (λ k. bytes_eq name k.now) keys rows)
row_found name keys rows at same = ap (λ o. row_items (option_and_then (slice_get rows) o)) same ∙ ap row_items (sym (found_at (λ k. bytes_eq name k.now) keys rows))
