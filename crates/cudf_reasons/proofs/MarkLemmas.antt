-- The marks of those that were reported, and of the packages that were followed.
use Rattle.std.proofs.Common.{◌≡◌, ◌≢◌, ℕ, ◌+◌, ◌<◌, ◌≤◌, Bool, true, false, not, ◌&&◌, List, [], ◌∷◌, ◌++◌, length, get_or, set, map, filter, take, ◌⊎◌, inl, inr, refl, sym, ap, ◌∙◌, arith, nat_lt, nat_le, replicate, eqb-true}
use Rattle.std.specs.Prelude.{All, IsTrue}
use Rattle.std.proofs.lemmas.Bool.{cond-true, cond-false, lt-ltb, le-ltb, le-leb, lt-leb, and_left, and_right, and_from, and_parts, cases_eq, cases_lt}
use Rattle.std.proofs.lemmas.List.{get_or-set_same, get_or-set_other, append-nil, get_or-replicate, length-set, length-replicate, map_push}
use Rattle.std.proofs.lemmas.List.Elements.{All-nil, All-push, filter_more}
use Rattle.std.proofs.lemmas.List.Sums.{fold_push}
use Rattle.cudf_job.specs.declared.key.Part.{Part}
use Rattle.cudf_job.specs.declared.key.Part.TheVariants.{Package, Request, Solution}
use Rattle.cudf_reasons.specs.Reasons.{PlainReason, brought, is_brought_by, is_depends_or_conflicts, is_new, is_of, with_reason, with_reasons}
use Rattle.cudf_reasons.specs.Working.Tables.{reason_at, no_reason}
use Rattle.cudf_reasons.specs.Working.Walks.{IsMarked, IsRunOf, keys_ascend}
use Rattle.cudf_reasons.specs.declared.gathering.Run.{Run}
use Rattle.cudf_reasons.proofs.KeyOrderLemmas.{distinct_at}
use Rattle.cudf_reasons.proofs.ListLemmas.{filter_all, filter_at, filter_before, filter_none, filter_upto}
use Rattle.cudf_reasons.proofs.WalkLemmas.{new_as_before, none_new, told_itself, with_new, with_old}

abbrev Reasons : Type 0
Reasons = List PlainReason

pub nothing_marked : (core : Reasons) → IsTrue (keys_ascend core) → IsMarked core [] (replicate (length core) false) (replicate (length core) false)
nothing_marked core up = record {
  ordered = up;
  within = All-nil (λ index. index < length core);
  marks = length-replicate (length core) false;
  marked = λ k h. ap not (sym (get_or-replicate (length core) k false false h));
  packages = length-replicate (length core) false;
  followed = λ place s k inside h is here there. absurd (cc (sym is ∙ get_or-replicate (length core) s false false inside));
}

module _ (core : Reasons) (order : List ℕ) (is_told is_followed : List Bool) (is : IsMarked core order is_told is_followed) where
  abbrev told : Reasons
  told = map (reason_at core) order

  pub is_old : (k : ℕ) → k < length core → get_or is_told k false ≡ true → is_new told (reason_at core k) ≡ false
  is_old k within old = is.marked k within ∙ ap not old

  -- ---- one more is reported

  pub tells_none : (i : ℕ) → i < length core → get_or is_told i false ≡ true → told ≡ with_reason told (reason_at core i)
  tells_none i within old = sym (with_old told (reason_at core i) (is_old i within old))

  pub tells_one : (i : ℕ) → i < length core → get_or is_told i false ≡ false → map (reason_at core) (order ++ i ∷ []) ≡ with_reason told (reason_at core i)
  tells_one i within left = map_push (reason_at core) order i ∙ sym (with_new told (reason_at core i) (is.marked i within ∙ ap not left))

  pub told_marked : (i : ℕ) → i < length core → IsMarked core (order ++ i ∷ []) (set is_told i true) is_followed
  told_marked i within = record {
    ordered = is.ordered;
    within = All-push (λ index. index < length core) order i is.within within;
    marks = length-set is_told i true ∙ is.marks;
    marked = λ k h. by k h (omega (arith, is.marks)) (cases_eq k i);
    packages = is.packages;
    followed = λ place s k inside h by_it here there. kept k (omega (arith, is.marks)) (is.followed place s k inside h by_it here there) (cases_eq k i);
  }
    where
      by : (k : ℕ) → k < length core → i < length is_told → (k ≡ i) ⊎ (k ≢ i) → is_new (map (reason_at core) (order ++ i ∷ [])) (reason_at core k) ≡ not (get_or (set is_told i true) k false)
      by k h inside (inl e) =
          ap (λ t. is_new t (reason_at core k)) (map_push (reason_at core) order i)
          ∙ ap (λ n. is_new (told ++ reason_at core i ∷ []) (reason_at core n)) e
          ∙ told_itself told (reason_at core i)
          ∙ sym (ap (λ n. not (get_or (set is_told i true) n false)) e ∙ ap not (get_or-set_same is_told i true false inside))
      by k h inside (inr other) =
          ap (λ t. is_new t (reason_at core k)) (map_push (reason_at core) order i)
          ∙ new_as_before told (reason_at core i) (reason_at core k) (distinct_at core i k is.ordered within h (λ e. other (sym e)))
          ∙ is.marked k h
          ∙ sym (ap not (get_or-set_other is_told i k true false other))

      kept : (k : ℕ) → i < length is_told → get_or is_told k false ≡ true → (k ≡ i) ⊎ (k ≢ i) → get_or (set is_told i true) k false ≡ true
      kept k inside was (inl e) = ap (λ n. get_or (set is_told i true) n false) e ∙ get_or-set_same is_told i true false inside
      kept k inside was (inr other) = get_or-set_other is_told i k true false other ∙ was

  -- ---- a package

  -- one that was followed brings in nothing more
  pub follows_none : (place : ℕ) (run : Run) → IsRunOf core place run → run.start < run.end → get_or is_followed run.start false ≡ true → told ≡ with_reasons told (brought core place)
  follows_none place run those some was =
      let here : is_brought_by place (reason_at core run.start) ≡ true =
      those.those run.start (omega (arith, those.within)) ∙ and_from (nat_le run.start run.start) (nat_lt run.start run.end) (le-leb run.start run.start (omega arith)) (lt-ltb run.start run.end some) in
      sym (none_new told (brought core place)
      (filter_all (is_brought_by place) (λ r. is_new told r ≡ false) core no_reason
      (λ k h there. is_old k h (is.followed place run.start k (omega (arith, those.within)) h was here there))))

  -- the package is that of its reasons
  same_package : (place other : ℕ) (part : Part) → is_of place part ≡ true → is_of other part ≡ true → other ≡ place
  same_package place other (Package n) here there = sym (eqb-true n other there) ∙ eqb-true n place here
  same_package place other Request here there = absurd (cc here)
  same_package place other Solution here there = absurd (cc here)

  -- one of which all were reported is followed
  pub followed_marked : (place : ℕ) (run : Run) → IsRunOf core place run → run.start < run.end → All (λ r. is_new told r ≡ false) (brought core place) → IsMarked core order is_told (set is_followed run.start true)
  followed_marked place run those some all = record {
    ordered = is.ordered;
    within = is.within;
    marks = is.marks;
    marked = is.marked;
    packages = length-set is_followed run.start true ∙ is.packages;
    followed = λ other s k inside h was here there. by other s k inside h was here there (cases_eq s run.start);
  }
    where
      told_here : (k : ℕ) → k < length core → is_brought_by place (reason_at core k) ≡ true → get_or is_told k false ≡ true
      told_here k h there = not_false (get_or is_told k false) (sym (is.marked k h) ∙ filter_at (is_brought_by place) (λ r. is_new told r ≡ false) core k no_reason all h there)
        where
          not_false : (b : Bool) → not b ≡ false → b ≡ true
          not_false true e = refl
          not_false false e = absurd (cc e)

      by : (other s k : ℕ) → s < length core → k < length core → get_or (set is_followed run.start true) s false ≡ true
          → is_brought_by other (reason_at core s) ≡ true → is_brought_by other (reason_at core k) ≡ true → (s ≡ run.start) ⊎ (s ≢ run.start) → get_or is_told k false ≡ true
      by other s k inside h was here there (inl e) =
          let first : is_brought_by place (reason_at core s) ≡ true =
          those.those s inside ∙ and_from (nat_le run.start s) (nat_lt s run.end) (le-leb run.start s (omega arith)) (lt-ltb s run.end (omega arith)) in
          let part = (reason_at core s).key.part in
          let dc = is_depends_or_conflicts (reason_at core s).key.rule in
          let same : other ≡ place = same_package place other part (and_parts (is_of place part) dc first).0 (and_parts (is_of other part) dc here).0 in
          told_here k h (ap (λ n. is_brought_by n (reason_at core k)) (sym same) ∙ there)
      by other s k inside h was here there (inr differ) = is.followed other s k inside h (sym (get_or-set_other is_followed run.start s true false differ) ∙ was) here there

-- an empty run
pub follows_empty : (core told : Reasons) (place : ℕ) (run : Run) → IsRunOf core place run → run.end ≤ run.start → told ≡ with_reasons told (brought core place)
follows_empty core told place run those empty = ap (with_reasons told) (sym (filter_none (is_brought_by place) core no_reason (λ k h. those.those k h ∙ outside k (cases_lt k run.start))))
  where
    outside : (k : ℕ) → (k < run.start) ⊎ (run.start ≤ k) → (nat_le run.start k && nat_lt k run.end) ≡ false
    outside k (inl before) = and_left (nat_le run.start k) (nat_lt k run.end) (lt-leb run.start k before)
    outside k (inr behind) = and_right (nat_le run.start k) (nat_lt k run.end) (le-ltb k run.end (omega arith))

-- those up to the start of the run, and those up to its end
pub run_begins : (core : Reasons) (place : ℕ) (run : Run) → IsRunOf core place run → filter (is_brought_by place) (take run.start core) ≡ []
run_begins core place run those = filter_before (is_brought_by place) core run.start no_reason
    (λ k h before. those.those k h ∙ and_left (nat_le run.start k) (nat_lt k run.end) (lt-leb run.start k before))

pub run_ends : (core : Reasons) (place : ℕ) (run : Run) → IsRunOf core place run → filter (is_brought_by place) (take run.end core) ≡ brought core place
run_ends core place run those = filter_upto (is_brought_by place) core run.end no_reason
    (λ k h behind. those.those k h ∙ and_right (nat_le run.start k) (nat_lt k run.end) (le-ltb k run.end behind))

pub run_within : (core : Reasons) (place : ℕ) (run : Run) (k : ℕ) → IsRunOf core place run → run.start ≤ k → k < run.end → is_brought_by place (reason_at core k) ≡ true
run_within core place run k those from upto = those.those k (omega (arith, those.within)) ∙ and_from (nat_le run.start k) (nat_lt k run.end) (le-leb run.start k from) (lt-ltb k run.end upto)

-- ---- one more of those that pass a test

pub next_passes : (p : PlainReason → Bool) (core told : Reasons) (i : ℕ) → i < length core → p (reason_at core i) ≡ true
    → with_reason (with_reasons told (filter p (take i core))) (reason_at core i) ≡ with_reasons told (filter p (take (i + 1) core))
next_passes p core told i within passes =
    sym (fold_push with_reason told (filter p (take i core)) (reason_at core i))
    ∙ ap (with_reasons told) (ap (λ xs. filter p (take i core) ++ xs) (sym (cond-true (p (reason_at core i)) (reason_at core i ∷ []) [] passes)) ∙ sym (filter_more p core i no_reason within))

pub next_fails : (p : PlainReason → Bool) (core told : Reasons) (i : ℕ) → i < length core → p (reason_at core i) ≡ false
    → with_reasons told (filter p (take i core)) ≡ with_reasons told (filter p (take (i + 1) core))
next_fails p core told i within fails =
    ap (with_reasons told) (sym (append-nil (filter p (take i core))) ∙ ap (λ xs. filter p (take i core) ++ xs) (sym (cond-false (p (reason_at core i)) (reason_at core i ∷ []) [] fails)) ∙ sym (filter_more p core i no_reason within))
