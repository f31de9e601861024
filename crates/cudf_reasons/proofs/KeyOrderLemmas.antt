-- The order of keys.
use Rattle.std.proofs.Common.{◌≡◌, ◌≢◌, ℕ, ◌<◌, zero, suc, true, false, List, [], ◌∷◌, length, get_or, map, refl, sym, ap, ◌∙◌, arith, ◌⊎◌, inl, inr}
use Rattle.std.specs.List.{list_all}
use Rattle.std.specs.Prelude.{AllPairs, IsTrue}
use Rattle.std.specs.Cmp.{IsTotalOrder}
use Rattle.std.specs.Ordering.{is_eq, is_le, is_lt, ordering_reverse}
use Rattle.std.specs.declared.cmp.Ordering.{Ordering}
use Rattle.std.specs.declared.cmp.Ordering.TheVariants.{Less, Equal, Greater}
use Rattle.std.proofs.lemmas.Bool.{and_from, and_parts, cases_order}
use Rattle.std.proofs.lemmas.Cmp.{on_total, nat_list_cmp_total, tied_itself}
use Rattle.std.proofs.lemmas.List.{get_or-map, length-map}
use Rattle.cudf_job.specs.Keys.{PlainKey, ascend, key_cmp, key_ranks, never_descend}
use Rattle.cudf_job.specs.Working.Keys.{precedes_all}
use Rattle.cudf_job.proofs.KeyLemmas.{equal_keys}
use Rattle.cudf_reasons.specs.Reasons.{PlainReason, same_key}
use Rattle.cudf_reasons.specs.Working.Tables.{no_reason, reason_at}
use Rattle.cudf_reasons.specs.Working.Walks.{keys_ascend}
use Rattle.cudf_reasons.proofs.ListLemmas.{all_at, all_from}

pub key_order : IsTotalOrder key_cmp
key_order = on_total key_ranks nat_list_cmp_total

pub same_itself : (a : PlainKey) → same_key a a ≡ true
same_itself a = ap is_eq (tied_itself key_order a)

pub same_is : (a b : PlainKey) → same_key a b ≡ true → a ≡ b
same_is a b same = (equal_keys a b (same_key a b) refl).0 same

pub less_from_lt : (o : Ordering) → is_lt o ≡ true → o ≡ Less
less_from_lt Less h = refl
less_from_lt Equal h = absurd (cc h)
less_from_lt Greater h = absurd (cc h)

-- not after, and not the same: before
pub less_from_le : (o : Ordering) → is_le o ≡ true → is_eq o ≡ false → is_lt o ≡ true
less_from_le Less h e = refl
less_from_le Equal h e = absurd (cc e)
less_from_le Greater h e = absurd (cc h)

-- the one before and the one after aren't the same
apart : (a b : PlainKey) → key_cmp a b ≡ Less → same_key a b ≡ false
apart a b less = ap is_eq less

apart_back : (a b : PlainKey) → key_cmp a b ≡ Less → same_key b a ≡ false
apart_back a b less = ap is_eq (key_order.antisymm b a ∙ ap ordering_reverse less)

-- keys of which none comes before an earlier one, by places: for those who ask for the reasons
pub never_descend-from_pairs : (keys : List PlainKey) → AllPairs (λ a b. is_le (key_cmp a b) ≡ true) keys → never_descend keys ≡ true
never_descend-from_pairs [] pairs = refl
never_descend-from_pairs (key ∷ keys) pairs =
    and_from (list_all (λ later. is_le (key_cmp key later)) keys) (never_descend keys)
    (all_from (λ later. is_le (key_cmp key later)) keys (λ i d h. pairs 0 (suc i) d (omega arith) (omega arith)))
    (never_descend-from_pairs keys (λ i j d before within. pairs (suc i) (suc j) d (omega arith) (omega arith)))

-- ---- keys that ascend, by places

ascend_at : (keys : List PlainKey) (i j : ℕ) (d : PlainKey) → ascend keys ≡ true → i < j → j < length keys → key_cmp (get_or keys i d) (get_or keys j d) ≡ Less
ascend_at [] i j d up before within = absurd (omega arith)
ascend_at (key ∷ keys) i zero d up before within = absurd (omega arith)
ascend_at (key ∷ keys) zero (suc j) d up before within =
    less_from_lt _ (all_at (λ k. is_lt (key_cmp key k)) keys j d (and_parts (precedes_all key keys) (ascend keys) up).0 (omega arith))
ascend_at (key ∷ keys) (suc i) (suc j) d up before within =
    ascend_at keys i j d (and_parts (precedes_all key keys) (ascend keys) up).1 (omega arith) (omega arith)

abbrev key_of : PlainReason → PlainKey
key_of reason = reason.key

pub before_at : (core : List PlainReason) (i j : ℕ) → IsTrue (keys_ascend core) → i < j → j < length core → key_cmp (reason_at core i).key (reason_at core j).key ≡ Less
before_at core i j up before within =
    let e : get_or (map key_of core) i no_reason.key ≡ (reason_at core i).key = get_or-map key_of core i no_reason no_reason.key (omega arith) in
    let f : get_or (map key_of core) j no_reason.key ≡ (reason_at core j).key = get_or-map key_of core j no_reason no_reason.key within in
    let keys : length (map key_of core) ≡ length core = length-map core key_of in
    ap (λ k. key_cmp k (reason_at core j).key) (sym e) ∙ ap (λ k. key_cmp (get_or (map key_of core) i no_reason.key) k) (sym f)
    ∙ ascend_at (map key_of core) i j no_reason.key up before (omega arith)

-- two places have two keys
pub distinct_at : (core : List PlainReason) (i j : ℕ) → IsTrue (keys_ascend core) → i < length core → j < length core → i ≢ j → same_key (reason_at core i).key (reason_at core j).key ≡ false
distinct_at core i j up ins ins' differ = by (cases_order i j)
  where
    by : (i ≡ j) ⊎ ((i < j) ⊎ (j < i)) → same_key (reason_at core i).key (reason_at core j).key ≡ false
    by (inl e) = absurd (differ e)
    by (inr (inl h)) = apart (reason_at core i).key (reason_at core j).key (before_at core i j up h ins')
    by (inr (inr h)) = apart_back (reason_at core j).key (reason_at core i).key (before_at core j i up h ins)
