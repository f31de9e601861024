-- Keys and positions of the walk in order, and what it costs to go from one to another.
use Rattle.std.proofs.Common.{◌≡◌, ℕ, ◌+◌, ◌<◌, ◌==◌, Bool, true, false, not, ◌&&◌, ◌||◌, nat_lt, nat_le, List, [], ◌∷◌, filter, cond, arith, refl, ap, sym, ◌∙◌, lit<}
use Rattle.std.proofs.lemmas.Bool.Decides.{nat_tests}
use Rattle.std.proofs.lemmas.Cmp.{nat_list_cmp_total, tied_itself}
use Rattle.std.specs.Prelude.{sum_by}
use Rattle.std.specs.Cmp.{nat_cmp_is}
use Rattle.std.specs.Cmp.Lexicographic.{slice_cmp}
use Rattle.std.specs.Ordering.{nat_cmp, ordering_then, ordering_reverse, is_lt}
use Rattle.std.specs.declared.cmp.Ordering.{Ordering}
use Rattle.std.specs.declared.cmp.Ordering.TheVariants.{Less, Equal, Greater}
use Rattle.cudf_job.specs.declared.key.Part.{Part}
use Rattle.cudf_job.specs.declared.key.Part.TheVariants.{Package, Request, Solution}
use Rattle.cudf_job.specs.declared.key.Rule.{Rule}
use Rattle.cudf_job.specs.declared.key.Rule.TheVariants.{Depends, Conflicts, Keep, Install, Remove, Upgrade, Unknown}
use Rattle.cudf_job.specs.Keys.{PlainKey, part_row, part_place, rule_row, aspect_row, key_ranks}
use Rattle.cudf_referee.specs.Proposals.{Proposal}
use Rattle.cudf_referee.specs.Promises.Stops.{Stop, stop_at, package_end, walk, stop_cost, PlainPosition, at_start, at_key, at_end, precedes, precedes_end, is_after, is_ahead, cost_between}
use Rattle.std.proofs.lemmas.Grind.{common_steps}

-- ---- keys

pub lt_less : (o : Ordering) → is_lt o ≡ true → o ≡ Less
lt_less Less h = refl
lt_less Equal h = absurd (cc h)
lt_less Greater h = absurd (cc h)

ranks_chained : (a b c : List ℕ) → is_lt (slice_cmp nat_cmp a b) ≡ true → is_lt (slice_cmp nat_cmp b c) ≡ true → is_lt (slice_cmp nat_cmp a c) ≡ true
ranks_chained a b c h k = ap is_lt (nat_list_cmp_total.trans a b c (lt_less (slice_cmp nat_cmp a b) h) (lt_less (slice_cmp nat_cmp b c) k))

pub precedes-chained : (a b c : PlainKey) → precedes a b ≡ true → precedes b c ≡ true → precedes a c ≡ true
precedes-chained a b c h k = ranks_chained (key_ranks a) (key_ranks b) (key_ranks c) h k

-- no key comes before itself
pub precedes-itself : (k : PlainKey) → precedes k k ≡ false
precedes-itself k = ap is_lt (tied_itself nat_list_cmp_total (key_ranks k))

-- no key comes before one that comes before it
pub precedes-back : (a b : PlainKey) → precedes a b ≡ true → precedes b a ≡ false
precedes-back a b h = ap is_lt (nat_list_cmp_total.antisymm (key_ranks b) (key_ranks a)
    ∙ ap ordering_reverse (lt_less (slice_cmp nat_cmp (key_ranks a) (key_ranks b)) h))

-- ---- stops

-- the end of a package ranks after all its keys
abbrev pub stop_ranks : Stop → List ℕ
stop_ranks (stop_at i) = key_ranks i.key
stop_ranks (package_end place) = 1 ∷ place ∷ 8 ∷ []

pub rule_below : (r : Rule) → (rule_row r).0 < 8
rule_below Depends = lit< tt
rule_below Conflicts = lit< tt
rule_below Keep = lit< tt
rule_below Install = lit< tt
rule_below Remove = lit< tt
rule_below Upgrade = lit< tt
rule_below Unknown = lit< tt

end_ranks : (p : Part) (n r : ℕ) (more : List ℕ) → r < 8
    → precedes_end p n ≡ is_lt (slice_cmp nat_cmp ((part_row p).0 ∷ part_place p ∷ r ∷ more) (1 ∷ n ∷ 8 ∷ []))
end_ranks (Package m) n r more h = by (nat_lt m n) (m == n) (grind (arith, nat_tests))
  where
    by : (below same : Bool) → nat_le m n ≡ (below || same) → nat_le m n ≡ is_lt (ordering_then (cond below Less (cond same Equal Greater)) (ordering_then (nat_cmp r 8) (slice_cmp nat_cmp more [])))
    by true same e = e
    by false true e = e ∙ ap (λ o. is_lt (ordering_then o (slice_cmp nat_cmp more []))) (nat_cmp_is r 8 Less h)
    by false false e = e
end_ranks Request n r more h = refl
end_ranks Solution n r more h = refl

-- a stop comes after a key where its ranks do
pub is_after-ranks : (k : PlainKey) (x : Stop) → is_after k x ≡ is_lt (slice_cmp nat_cmp (key_ranks k) (stop_ranks x))
is_after-ranks k (stop_at i) = refl
is_after-ranks k (package_end n) = end_ranks k.part n (rule_row k.rule).0 (k.place ∷ (aspect_row k.aspect).0 ∷ []) (rule_below k.rule)

-- ---- positions

-- what is ahead of the second position is ahead of the first
pub record IsLater (a b : PlainPosition) : Type 0 where
  pub ahead : (x : Stop) → is_ahead b x ≡ true → is_ahead a x ≡ true

pub later-key : (a b : PlainKey) → precedes a b ≡ true → IsLater (at_key a) (at_key b)
later-key a b h = record {
  ahead = λ x k. is_after-ranks a x ∙ ranks_chained (key_ranks a) (key_ranks b) (stop_ranks x) h (sym (is_after-ranks b x) ∙ k);
}

pub later-end : (a : PlainPosition) → IsLater a at_end
later-end a = record { ahead = λ x k. absurd (cc k) }

pub later-start : (b : PlainPosition) → IsLater at_start b
later-start b = record { ahead = λ x k. refl }

pub later-chained : (a b c : PlainPosition) → IsLater a b → IsLater b c → IsLater a c
later-chained a b c h k = record { ahead = λ x l. h.ahead x (k.ahead x l) }

joined : {A : Type 0} (f : A → ℕ) (p q r : A → Bool) → ((x : A) → q x ≡ true → p x ≡ true) → ((x : A) → r x ≡ true → q x ≡ true) → (xs : List A)
    → sum_by f (filter (λ x. p x && not (q x)) xs) + sum_by f (filter (λ x. q x && not (r x)) xs) ≡ sum_by f (filter (λ x. p x && not (r x)) xs)
joined f p q r h k [] = refl
joined f p q r h k (x ∷ xs) = grind (arith, common_steps, joined f p q r h k xs, h x, k x)

-- going on from a position that lies between costs no more and no less
pub cost_between-joined : (s : Proposal) (a b c : PlainPosition) → IsLater a b → IsLater b c → cost_between s a b + cost_between s b c ≡ cost_between s a c
cost_between-joined s a b c h k = joined (stop_cost s.proposed) (is_ahead a) (is_ahead b) (is_ahead c) h.ahead k.ahead (walk s)
