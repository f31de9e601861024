-- Pairs of which none occurs twice.
use Rattle.std.proofs.Common.{◌≡◌, ℕ, zero, suc, ◌<◌, true, false, not, List, [], ◌∷◌, ◌++◌, take, length, get_or, sym, ap, ◌∙◌, arith}
use Rattle.std.proofs.lemmas.Bool.{true≢false, and_parts, not-true, false_from_ne_true}
use Rattle.std.proofs.lemmas.List.{append-nil, append_assoc, get_or-take, length-take-le}
use Rattle.std.proofs.lemmas.List.Folds.{list_any_at}
use Rattle.std.specs.List.{list_all}
use Rattle.cudf_problem.specs.Documents.{with_earlier}
use Rattle.cudf_problem.specs.Ids.{Id, is_id, is_among}
use Rattle.cudf_problem.specs.Promises.Packages.{are_distinct}

-- of pairs of which none occurs twice, each isn't among those before it
pub distinct-at : (ids : List Id) (i : ℕ) (d : Id) → are_distinct ids ≡ true → i < length ids → is_among (take i ids) (get_or ids i d) ≡ false
distinct-at ids i d all within = at [] ids i all within
  where
    at : (before xs : List Id) (k : ℕ) → list_all (λ x. not (is_among x.0 x.1)) (with_earlier before xs) ≡ true → k < length xs → is_among (before ++ take k xs) (get_or xs k d) ≡ false
    at before [] k h lt = absurd (omega arith)
    at before (x ∷ xs) zero h lt =
        ap (λ l. is_among l x) (append-nil before) ∙ not-true (is_among before x) (and_parts (not (is_among before x)) (list_all (λ y. not (is_among y.0 y.1)) (with_earlier (before ++ x ∷ []) xs)) h).0
    at before (x ∷ xs) (suc k) h lt =
        ap (λ l. is_among l (get_or xs k d)) (sym (append_assoc before (x ∷ []) (take k xs)))
        ∙ at (before ++ x ∷ []) xs k (and_parts (not (is_among before x)) (list_all (λ y. not (is_among y.0 y.1)) (with_earlier (before ++ x ∷ []) xs)) h).1 (omega arith)

-- two places of such pairs have different ones
pub distinct-places : (ids : List Id) (i j : ℕ) (d : Id) → are_distinct ids ≡ true → i < j → j < length ids → is_id (get_or ids j d) (get_or ids i d) ≡ false
distinct-places ids i j d all before within =
    false_from_ne_true (is_id (get_or ids j d) (get_or ids i d)) (λ same.
    let len : length (take j ids) ≡ j = length-take-le j ids (omega arith) in
    let there : is_among (take j ids) (get_or ids j d) ≡ true =
    list_any_at (is_id (get_or ids j d)) (take j ids) i d (omega arith)
    (ap (is_id (get_or ids j d)) (get_or-take j ids i d before) ∙ same) in
    true≢false (sym there ∙ distinct-at ids j d all within))
