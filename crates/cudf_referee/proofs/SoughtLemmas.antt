-- The instance of a key, sought among those whose keys ascend.
use Rattle.std.proofs.Common.{◌≡◌, ℕ, Bool, true, false, ◌&&◌, List, [], ◌∷◌, cond, Some, None, refl, ap, sym, ◌∙◌, subst}
use Rattle.std.specs.Prelude.{find}
use Rattle.std.specs.List.{list_all}
use Rattle.std.specs.Ordering.{ordering_reverse, is_eq, is_lt}
use Rattle.std.specs.declared.cmp.Ordering.{Ordering}
use Rattle.std.specs.declared.cmp.Ordering.TheVariants.{Less, Equal, Greater}
use Rattle.std.proofs.lemmas.Cmp.{nat_list_cmp_total}
use Rattle.std.proofs.lemmas.List.Elements.{filter_agree}
use Rattle.cudf_job.specs.Keys.{PlainKey, key_ranks, key_cmp, ascend}
use Rattle.cudf_job.specs.Working.Keys.{precedes_all}
use Rattle.cudf_referee.specs.Instances.{PlainInstance}
use Rattle.cudf_referee.specs.Promises.Stops.{precedes}
use Rattle.cudf_referee.specs.Working.Sought.{has_key, after_key, IsRest, Seeks}
use Rattle.cudf_referee.proofs.AscentLemmas.{Climbs, climbs-filter, climbing_ascends, instance_ranks}
use Rattle.cudf_referee.proofs.ListLemmas.{and_left, and_right, filter-both, weaker_case}
use Rattle.cudf_referee.proofs.PagingLemmas.{keys_of, behind_all}
use Rattle.cudf_referee.proofs.PositionLemmas.{lt_less, precedes-chained}

-- ---- keys

reversed : (a b : PlainKey) → key_cmp b a ≡ ordering_reverse (key_cmp a b)
reversed a b = nat_list_cmp_total.antisymm (key_ranks b) (key_ranks a)

-- one that comes before a key or after it doesn't have it
pub before_differs : (a b : PlainKey) → precedes a b ≡ true → is_eq (key_cmp a b) ≡ false
before_differs a b h = ap is_eq (lt_less (key_cmp a b) h)

pub after_differs : (a b : PlainKey) → precedes a b ≡ true → is_eq (key_cmp b a) ≡ false
after_differs a b h = ap is_eq (reversed a b ∙ ap ordering_reverse (lt_less (key_cmp a b) h))

neither : (o : Ordering) → is_lt o ≡ false → is_lt (ordering_reverse o) ≡ false → o ≡ Equal
neither Less h k = absurd (cc h)
neither Equal h k = refl
neither Greater h k = absurd (cc k)

equal_tied : (o : Ordering) → is_eq o ≡ true → o ≡ Equal
equal_tied Less h = absurd (cc h)
equal_tied Equal h = refl
equal_tied Greater h = absurd (cc h)

-- what comes after one that comes after a key does too
precedes_more : (key k : PlainKey) (is : List PlainInstance) → precedes key k ≡ true → precedes_all k (keys_of is) ≡ true → precedes_all key (keys_of is) ≡ true
precedes_more key k [] h later = refl
precedes_more key k (i ∷ is) h later =
    let first = precedes-chained key k i.key h (and_left (precedes k i.key) (precedes_all k (keys_of is)) later) in
    let more = precedes_more key k is h (and_right (precedes k i.key) (precedes_all k (keys_of is)) later) in
    (λ j. first j && more j)

none_found : (key : PlainKey) (is : List PlainInstance) → precedes_all key (keys_of is) ≡ true → find (has_key key) is ≡ None
none_found key [] h = refl
none_found key (i ∷ is) h =
    ap (λ b. cond b (Some i) (find (has_key key) is)) (after_differs key i.key (and_left (precedes key i.key) (precedes_all key (keys_of is)) h))
    ∙ none_found key is (and_right (precedes key i.key) (precedes_all key (keys_of is)) h)

-- ---- going by those up to a key

pub rest-all : (key : PlainKey) (all : List PlainInstance) → ascend (keys_of all) ≡ true → IsRest key all all
rest-all key all h = record { ascends = h; after = refl; found = refl }

pub rest-same : (key : PlainKey) (all xs ys : List PlainInstance) → xs ≡ ys → IsRest key all xs → IsRest key all ys
rest-same key all xs ys same is = subst (IsRest key all) same is

-- one that comes before the key is gone by
pub rest-on : (key : PlainKey) (all : List PlainInstance) (x : PlainInstance) (xs : List PlainInstance) → precedes key x.key ≡ false → precedes x.key key ≡ true → IsRest key all (x ∷ xs) → IsRest key all xs
rest-on key all x xs not_after before is = record {
  ascends = and_right (precedes_all x.key (keys_of xs)) (ascend (keys_of xs)) is.ascends;
  after = is.after ∙ ap (λ b. cond b (x ∷ after_key key xs) (after_key key xs)) not_after;
  found = is.found ∙ ap (λ b. cond b (Some x) (find (has_key key) xs)) (before_differs x.key key before);
}

-- from one that comes after it on, all do
pub seeks-past : (key : PlainKey) (all : List PlainInstance) (x : PlainInstance) (xs : List PlainInstance) → precedes key x.key ≡ true → IsRest key all (x ∷ xs) → Seeks key all None (x ∷ xs)
seeks-past key all x xs h is =
    let later : precedes_all key (keys_of (x ∷ xs)) ≡ true =
    let more = precedes_more key x.key xs h (and_left (precedes_all x.key (keys_of xs)) (ascend (keys_of xs)) is.ascends) in
    (λ j. h j && more j) in
    record {
      one = sym (is.found ∙ none_found key (x ∷ xs) later);
      after = is.after ∙ behind_all key (x ∷ xs) later;
    }

-- one that comes neither before nor after it has it
pub seeks-found : (key : PlainKey) (all : List PlainInstance) (x : PlainInstance) (xs : List PlainInstance) → precedes key x.key ≡ false → precedes x.key key ≡ false → IsRest key all (x ∷ xs) → Seeks key all (Some x) xs
seeks-found key all x xs not_after not_before is =
    let tied : key_cmp x.key key ≡ Equal = neither (key_cmp x.key key) not_before (ap is_lt (sym (reversed x.key key)) ∙ not_after) in
    let later : precedes_all key (keys_of xs) ≡ true =
    (λ i. list_all (λ k. is_lt (sym (nat_list_cmp_total.congr (key_ranks x.key) (key_ranks key) (key_ranks k) tied) i)) (keys_of xs))
    ∙ and_left (precedes_all x.key (keys_of xs)) (ascend (keys_of xs)) is.ascends in
    record {
      one = sym (is.found ∙ ap (λ o. cond (is_eq o) (Some x) (find (has_key key) xs)) tied);
      after = is.after ∙ ap (λ b. cond b (x ∷ after_key key xs) (after_key key xs)) not_after ∙ behind_all key xs later;
    }

pub seeks-end : (key : PlainKey) (all : List PlainInstance) → IsRest key all [] → Seeks key all None []
seeks-end key all is = record { one = sym is.found; after = is.after }

-- ---- going on from an earlier key

module _ (last key : PlainKey) (earlier : precedes last key ≡ true) where
  -- what has the key comes after the earlier one
  tied_after : (x : PlainInstance) → has_key key x ≡ true → precedes last x.key ≡ true
  tied_after x h =
      let tied = equal_tied (key_cmp x.key key) h in
      ap is_lt (reversed x.key last ∙ ap ordering_reverse (nat_list_cmp_total.congr (key_ranks x.key) (key_ranks key) (key_ranks last) tied) ∙ sym (reversed key last)) ∙ earlier

  found_after : (xs : List PlainInstance) → find (has_key key) xs ≡ find (has_key key) (after_key last xs)
  found_after [] = refl
  found_after (x ∷ xs) = by (precedes last x.key) (has_key key x) refl (tied_after x) (found_after xs)
    where
      ys : List PlainInstance
      ys = after_key last xs

      by : (b c : Bool) → c ≡ has_key key x → (c ≡ true → b ≡ true) → find (has_key key) xs ≡ find (has_key key) ys → cond c (Some x) (find (has_key key) xs) ≡ find (has_key key) (cond b (x ∷ ys) ys)
      by true c same h rest = (λ i. cond (same i) (Some x) (rest i))
      by false true same h rest = absurd (cc (h refl))
      by false false same h rest = rest

  after_after : (xs : List PlainInstance) → after_key key xs ≡ after_key key (after_key last xs)
  after_after xs =
      filter_agree (λ x. precedes key x.key) (λ x. precedes last x.key && precedes key x.key)
      (λ x. sym (weaker_case (precedes last x.key) (precedes key x.key) (precedes-chained last key x.key earlier))) xs
      ∙ filter-both (λ x. precedes last x.key) (λ x. precedes key x.key) xs

  pub rest-later : (all left : List PlainInstance) → ascend (keys_of left) ≡ true → after_key last all ≡ left → IsRest key all left
  rest-later all left ascends is = record {
    ascends = ascends;
    after = after_after all ∙ ap (after_key key) is;
    found = found_after all ∙ ap (find (has_key key)) is;
  }

-- what is left after an earlier key, of those that climb
pub rest-climbing : (last key : PlainKey) → precedes last key ≡ true → (low : List ℕ) (all : List PlainInstance) (high : List ℕ) → Climbs instance_ranks low all high
    → (left : List PlainInstance) → after_key last all ≡ left → IsRest key all left
rest-climbing last key earlier low all high climbs left is =
    rest-later last key earlier all left
    (subst (λ (xs : List PlainInstance). ascend (keys_of xs) ≡ true) is
    (climbing_ascends low (after_key last all) high (climbs-filter instance_ranks (λ i. precedes last i.key) low all high climbs)))
    is
