-- Where a package's reasons are among all.
use Rattle.std.proofs.Common.{◌≡◌, ◌≢◌, ℕ, ◌<◌, ◌≤◌, ◌==◌, Bool, true, false, ◌&&◌, ◌||◌, List, [], ◌∷◌, length, get_or, map, ◌⊎◌, inl, inr, refl, sym, ap, ap₂, ◌∙◌, arith, nat_lt, nat_le}
use Rattle.std.specs.Prelude.{IsTrue}
use Rattle.std.specs.List.Sorted.{IsPartitionedBy, IsPartitionPoint}
use Rattle.std.specs.Ordering.{nat_cmp, ordering_then, MatchOrdering}
use Rattle.std.specs.declared.cmp.Ordering.{Ordering}
use Rattle.std.specs.declared.cmp.Ordering.TheVariants.{Less, Equal, Greater}
use Rattle.std.proofs.lemmas.Bool.{ltb-true, lt-ltb, le-ltb, le-leb, lt-leb, eqb-true, eq-eqb, ne_eqb, and_left, and_right, and_from, and_parts, or_cases, or_left, or_right, cases_eq, cases_lt}
use Rattle.std.proofs.lemmas.Cmp.{ranked}
use Rattle.std.proofs.lemmas.List.{get_or-map, length-map}
use Rattle.cudf_job.specs.Keys.{PlainKey, key_cmp, part_place, part_row, rule_row}
use Rattle.cudf_job.specs.KeyViews.{key_view}
use Rattle.cudf_job.specs.declared.key.Part.{Part}
use Rattle.cudf_job.specs.declared.key.Part.TheVariants.{Package, Request, Solution}
use Rattle.cudf_job.specs.declared.key.Rule.{Rule}
use Rattle.cudf_job.specs.declared.key.Rule.TheVariants.{Depends, Conflicts, Keep, Install, Remove, Upgrade, Unknown}
use Rattle.cudf_reasons.specs.Reasons.{PlainReason, is_depends_or_conflicts, is_of}
use Rattle.cudf_reasons.specs.Working.Runs.{comes_before, is_brought}
use Rattle.cudf_reasons.specs.Working.Tables.{no_reason, reason_at, reason_in}
use Rattle.cudf_reasons.specs.Working.Walks.{IsRunOf, keys_ascend}
use Rattle.cudf_reasons.specs.declared.gathering.Reason.{Reason}
use Rattle.cudf_reasons.proofs.KeyOrderLemmas.{before_at}

-- ---- two keys in order

-- the first of two comparisons decides
less_or_same : (m n : ℕ) (o : Ordering) → ordering_then (nat_cmp m n) o ≡ Less → (m < n) ⊎ ((m ≡ n) × (o ≡ Less))
less_or_same m n o h = by (nat_cmp m n) (ranked m n (nat_cmp m n) refl) h
  where
    by : (c : Ordering) → MatchOrdering c (m < n) (m ≡ n) (n < m) → ordering_then c o ≡ Less → (m < n) ⊎ ((m ≡ n) × (o ≡ Less))
    by Less less e = inl less
    by Equal same e = inr (same, e)
    by Greater more e = absurd (cc e)

-- the key before one that is before the place is before it too
before_kept : (place : ℕ) (p q : Part) (o : Ordering) → ordering_then (nat_cmp (part_row p).0 (part_row q).0) (ordering_then (nat_cmp (part_place p) (part_place q)) o) ≡ Less
    → comes_before place q ≡ true → comes_before place p ≡ true
before_kept place (Package m) (Package n) o h before = by (less_or_same m n o h)
  where
    by : (m < n) ⊎ ((m ≡ n) × (o ≡ Less)) → nat_lt m place ≡ true
    by (inl less) = lt-ltb m place (omega (arith, ltb-true n place before))
    by (inr same) = lt-ltb m place (omega (arith, ltb-true n place before, same.0))
before_kept place Request (Package n) o h before = absurd (cc h)
before_kept place Solution (Package n) o h before = absurd (cc h)
before_kept place p Request o h before = absurd (cc before)
before_kept place p Solution o h before = absurd (cc before)

low : (s : Rule) → is_depends_or_conflicts s ≡ true → (rule_row s).0 ≤ 2
low Depends h = omega arith
low Conflicts h = omega arith
low Keep h = absurd (cc h)
low Install h = absurd (cc h)
low Remove h = absurd (cc h)
low Upgrade h = absurd (cc h)
low Unknown h = absurd (cc h)

from_low : (r : Rule) → (rule_row r).0 ≤ 2 → is_depends_or_conflicts r ≡ true
from_low Depends h = refl
from_low Conflicts h = refl
from_low Keep h = absurd (omega arith)
from_low Install h = absurd (omega arith)
from_low Remove h = absurd (omega arith)
from_low Upgrade h = absurd (omega arith)
from_low Unknown h = absurd (omega arith)

rule_kept : (r s : Rule) (o : Ordering) → ordering_then (nat_cmp (rule_row r).0 (rule_row s).0) o ≡ Less → is_depends_or_conflicts s ≡ true → is_depends_or_conflicts r ≡ true
rule_kept r s o h those = by (less_or_same (rule_row r).0 (rule_row s).0 o h)
  where
    by : ((rule_row r).0 < (rule_row s).0) ⊎ (((rule_row r).0 ≡ (rule_row s).0) × (o ≡ Less)) → is_depends_or_conflicts r ≡ true
    by (inl less) = from_low r (omega (arith, low s those))
    by (inr same) = from_low r (omega (arith, low s those, same.0))

abbrev upto : ℕ → Part → Rule → Bool
upto place part rule = comes_before place part || (is_of place part && is_depends_or_conflicts rule)

-- the key before one that is before the end of the package's is so too
upto_kept : (place : ℕ) (p q : Part) (r s : Rule) (o : Ordering)
    → ordering_then (nat_cmp (part_row p).0 (part_row q).0) (ordering_then (nat_cmp (part_place p) (part_place q)) (ordering_then (nat_cmp (rule_row r).0 (rule_row s).0) o)) ≡ Less
    → upto place q s ≡ true → upto place p r ≡ true
upto_kept place (Package m) (Package n) r s o h those =
    by (less_or_same m n (ordering_then (nat_cmp (rule_row r).0 (rule_row s).0) o) h) (or_cases (nat_lt n place) ((n == place) && is_depends_or_conflicts s) those)
  where
    by : (m < n) ⊎ ((m ≡ n) × (ordering_then (nat_cmp (rule_row r).0 (rule_row s).0) o ≡ Less)) → (nat_lt n place ≡ true) ⊎ (((n == place) && is_depends_or_conflicts s) ≡ true) → upto place (Package m) r ≡ true
    by (inl less) (inl before) = or_left (nat_lt m place) _ (lt-ltb m place (omega (arith, ltb-true n place before)))
    by (inl less) (inr here) = or_left (nat_lt m place) _ (lt-ltb m place (omega (arith, eqb-true n place (and_parts (n == place) (is_depends_or_conflicts s) here).0)))
    by (inr same) (inl before) = or_left (nat_lt m place) _ (lt-ltb m place (omega (arith, same.0, ltb-true n place before)))
    by (inr same) (inr here) =
        let parts = and_parts (n == place) (is_depends_or_conflicts s) here in
        or_right (nat_lt m place) _ (and_from (m == place) (is_depends_or_conflicts r) (eq-eqb m place (omega (arith, same.0, eqb-true n place parts.0))) (rule_kept r s o same.1 parts.1))
upto_kept place Request (Package n) r s o h those = absurd (cc h)
upto_kept place Solution (Package n) r s o h those = absurd (cc h)
upto_kept place p Request r s o h those = absurd (cc those)
upto_kept place p Solution r s o h those = absurd (cc those)

abbrev pub row_before : ℕ → Reason → Bool
row_before place row = comes_before place (key_view row.key).part

abbrev pub row_upto : ℕ → Reason → Bool
row_upto place row = comes_before place (key_view row.key).part || is_brought place (key_view row.key)

-- ---- among rows

-- a package before the place isn't the one at the place
not_here : (place : ℕ) (part : Part) (rule : Rule) → comes_before place part ≡ true → (is_of place part && is_depends_or_conflicts rule) ≡ false
not_here place (Package n) rule before = and_left (n == place) (is_depends_or_conflicts rule) (ne_eqb n place (λ e. omega (arith, ltb-true n place before)))
not_here place Request rule before = absurd (cc before)
not_here place Solution rule before = absurd (cc before)

behind_first : (a b c : Bool) → a ≡ false → (a || b) ≡ c → b ≡ c
behind_first true b c h e = absurd (cc h)
behind_first false b c h e = e

some_row : (rows : List Reason) → 0 < length rows → Reason
some_row [] h = absurd (omega arith)
some_row (row ∷ rows) h = row

module _ (places : List ℕ) (rows : List Reason) where
  key_at : (i : ℕ) (d : Reason) → i < length rows → (reason_at (map (reason_in places) rows) i).key ≡ key_view (get_or rows i d).key
  key_at i d within = ap (λ (reason : PlainReason). reason.key) (get_or-map (reason_in places) rows i d no_reason within)

  -- keys of rows in order
  rows_before : (i j : ℕ) (d : Reason) → IsTrue (keys_ascend (map (reason_in places) rows)) → i < j → j < length rows → key_cmp (key_view (get_or rows i d).key) (key_view (get_or rows j d).key) ≡ Less
  rows_before i j d up before within =
      ap₂ key_cmp (sym (key_at i d (omega arith))) (sym (key_at j d within))
      ∙ before_at (map (reason_in places) rows) i j up before (omega (arith, length-map rows (reason_in places)))

  parted : (p : PlainKey → Bool) → ((a b : PlainKey) → key_cmp a b ≡ Less → p b ≡ true → p a ≡ true) → IsTrue (keys_ascend (map (reason_in places) rows)) → IsPartitionedBy (λ (row : Reason). p (key_view row.key)) rows
  parted p kept up i j d upto within here = by (cases_eq i j)
    where
      by : (i ≡ j) ⊎ (i ≢ j) → p (key_view (get_or rows i d).key) ≡ true
      by (inl same) = ap (λ n. p (key_view (get_or rows n d).key)) same ∙ here
      by (inr other) = kept (key_view (get_or rows i d).key) (key_view (get_or rows j d).key) (rows_before i j d up (omega arith) within) here

  pub parted_before : (place : ℕ) → IsTrue (keys_ascend (map (reason_in places) rows)) → IsPartitionedBy (row_before place) rows
  parted_before place = parted (λ key. comes_before place key.part) (λ a b h. before_kept place a.part b.part _ h)

  pub parted_upto : (place : ℕ) → IsTrue (keys_ascend (map (reason_in places) rows)) → IsPartitionedBy (row_upto place) rows
  parted_upto place = parted (λ key. upto place key.part key.rule) (λ a b h. upto_kept place a.part b.part a.rule b.rule _ h)

  -- the key at a place is one of those, by where the two ends are
  those_at : (place start end : ℕ) (d : Reason) → IsPartitionPoint (λ row. row_before place row ≡ true) (λ row. row_before place row ≡ false) rows start
      → IsPartitionPoint (λ row. row_upto place row ≡ true) (λ row. row_upto place row ≡ false) rows end
      → (k : ℕ) → k < length rows → is_brought place (key_view (get_or rows k d).key) ≡ (nat_le start k && nat_lt k end)
  those_at place start end d first last k h = by (cases_lt k start) (cases_lt k end)
    where
      by : (k < start) ⊎ (start ≤ k) → (k < end) ⊎ (end ≤ k) → is_brought place (key_view (get_or rows k d).key) ≡ (nat_le start k && nat_lt k end)
      by (inl before) side =
          not_here place (key_view (get_or rows k d).key).part (key_view (get_or rows k d).key).rule (first.0 k d (omega arith) before)
          ∙ sym (and_left (nat_le start k) (nat_lt k end) (lt-leb start k before))
      by (inr from) (inl inside) =
          behind_first _ _ true (first.1 k d from h) (last.0 k d (omega arith) inside)
          ∙ sym (and_from (nat_le start k) (nat_lt k end) (le-leb start k from) (lt-ltb k end inside))
      by (inr from) (inr behind) =
          behind_first _ _ false (first.1 k d from h) (last.1 k d behind h)
          ∙ sym (and_right (nat_le start k) (nat_lt k end) (le-ltb k end behind))

  pub run_is : (place start end : ℕ) → end ≤ length rows → IsPartitionPoint (λ row. row_before place row ≡ true) (λ row. row_before place row ≡ false) rows start
      → IsPartitionPoint (λ row. row_upto place row ≡ true) (λ row. row_upto place row ≡ false) rows end → IsRunOf (map (reason_in places) rows) place (record { start = start; end = end })
  run_is place start end within first last = record {
    within = omega (arith, length-map rows (reason_in places));
    those = λ k h.
        let inside : k < length rows = omega (arith, length-map rows (reason_in places)) in
        let d : Reason = some_row rows (omega arith) in
        ap (is_brought place) (key_at k d inside) ∙ those_at place start end d first last k inside;
  }
