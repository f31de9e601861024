-- What is counted of packages, with one more of them.
use Rattle.std.proofs.Common.{◌≡◌, ℕ, ◌+◌, ◌-◌, ◌*◌, ◌/◌, ◌≤◌, Bool, true, false, not, cond, ◌||◌, List, [], ◌∷◌, ◌++◌, length, length-append, Option, Some, None, refl, sym, ap, ◌∙◌, arith}
use Rattle.std.specs.Prelude.{if◌then◌else◌}
use Rattle.std.specs.List.{count_by, list_any}
use Rattle.std.specs.Option.{is_none}
use Rattle.std.proofs.Math.Bool.{or-true}
use Rattle.std.proofs.lemmas.Bool.{or_parts, true≢false}
use Rattle.cudf_value.specs.declared.vpkg.Relop.{Relop}
use Rattle.cudf_value.specs.Vpkgs.{meets}
use Rattle.cudf_index.specs.Promises.Counts.{count_pairs}
use Rattle.cudf_index.specs.Satisfaction.{is_below_one}
use Rattle.cudf_index.specs.Working.NumbersByPackage.{count_over, is_same}
use Rattle.cudf_index.specs.Working.FirstPlaces.{number_meets}
use Rattle.cudf_index.specs.Working.Givers.{Adds, Counted, Gathers, Sorts, count_gathered, count_within, numbers_given, runs_differ}
use Rattle.cudf_index.specs.Working.Places.{HoldsSame}
use Rattle.cudf_index.specs.Working.ProvisionTest.{passes}
use Rattle.cudf_index.specs.declared.index.gathered_names.Provision.{Provision}
use Rattle.cudf_index.specs.declared.index.counts.Gathering.{Gathering}
use Rattle.cudf_index.specs.declared.index.counts.Givers.{Givers}
use Rattle.cudf_index.specs.declared.index.counts.PackageNumbers.{PackageNumbers}
use Rattle.cudf_index.specs.declared.index.named_trees.ProvisionTest.TheVariants.{Meeting, Number}
use Rattle.cudf_index.proofs.CountLemmas.{count-append, count-cons}
use Rattle.cudf_index.proofs.GiverLemmas.{any_same, counts_more, firsts, lasts, one_counts, sole_fewer, soles}
use Rattle.cudf_index.proofs.PairLemmas.{pairs_given}
use Rattle.cudf_index.proofs.PlaceLemmas.{Rising}
use Rattle.cudf_index.proofs.WantedLemmas.{any_number}

-- ---- which bounds a package meets

-- where a provision is of all versions
any_meets : (bound : Option (Relop × ℕ)) → is_below_one bound ≡ false → (run : List Provision) → list_any (λ g. is_none g.number) run ≡ true → list_any (passes (Meeting bound)) run ≡ true
any_meets bound above [] some = some
any_meets bound above (g ∷ gs) some = by g.number some (any_meets bound above gs)
  where
    by : (o : Option ℕ) → (is_none o || list_any (λ (h : Provision). is_none h.number) gs) ≡ true → (list_any (λ (h : Provision). is_none h.number) gs ≡ true → list_any (passes (Meeting bound)) gs ≡ true)
        → (number_meets bound o || list_any (passes (Meeting bound)) gs) ≡ true
    by None some rest = ap (λ b. not b || list_any (passes (Meeting bound)) gs) above
    by (Some n) some rest = ap (λ b. meets bound n || b) (rest some) ∙ or-true (meets bound n)

-- where none is
none_meets : (bound : Option (Relop × ℕ)) (run : List Provision) → list_any (λ g. is_none g.number) run ≡ false → list_any (passes (Number bound)) run ≡ list_any (passes (Meeting bound)) run
none_meets bound [] none = refl
none_meets bound (g ∷ gs) none =
    let parts = or_parts (is_none g.number) (list_any (λ (h : Provision). is_none h.number) gs) none in
    ap (λ b. passes (Number bound) g || b) (none_meets bound gs parts.1) ∙ by g.number parts.0
  where
    by : (o : Option ℕ) → is_none o ≡ false → (passes (Number bound) (record g { number = o }) || list_any (passes (Meeting bound)) gs) ≡ (number_meets bound o || list_any (passes (Meeting bound)) gs)
    by None numbered = absurd (true≢false numbered)
    by (Some n) numbered = refl

-- the bound that no version meets
below_meets : (bound : Option (Relop × ℕ)) → is_below_one bound ≡ true → (g : Provision) → passes (Number bound) g ≡ passes (Meeting bound) g
below_meets bound below g = by g.number
  where
    by : (o : Option ℕ) → passes (Number bound) (record g { number = o }) ≡ number_meets bound o
    by None = ap not (sym below)
    by (Some n) = refl

-- ---- one package more

-- the numbers of a package, each once
pub record GivesEach (run : List Provision) (ns : List ℕ) : Type 0 where
  pub up : Rising ns
  pub same : HoldsSame (numbers_given run) ns

module _ (run : List Provision) (ns : List ℕ) (gives : GivesEach run ns) where
  told : (bound : Option (Relop × ℕ)) → list_any (meets bound) ns ≡ list_any (passes (Number bound)) run
  told bound = any_same (meets bound) (numbers_given run) ns gives.same ∙ sym (any_number bound run)

  added_count : (old new : PackageNumbers) → Adds ns old new → length old.only.items ≤ length old.least.items → (bound : Option (Relop × ℕ)) → count_gathered bound new ≡ count_gathered bound old + cond (list_any (passes (Number bound)) run) 1 0
  added_count old new adds few bound =
      (λ i. count_over bound (adds.least i) (adds.greatest i) (adds.each i) (adds.only i))
      ∙ counts_more bound old.least.items old.greatest.items old.each.items old.only.items (firsts ns) (lasts ns) ns (soles ns) few (sole_fewer ns)
      ∙ ap (λ n. count_gathered bound old + n) (one_counts bound ns gives.up ∙ ap {B = ℕ} (λ b. cond b 1 0) (told bound))

  added_fewer : (old new : PackageNumbers) → Adds ns old new → length old.only.items ≤ length old.least.items → length new.only.items ≤ length new.least.items
  added_fewer old new adds few = omega (arith, ap length adds.only, ap length adds.least, length-append old.only.items (soles ns), length-append old.least.items (firsts ns), sole_fewer ns)

  module _ (done : List (List Provision)) (old new : Gathering) (adds : Adds ns old.numbers new.numbers) (so_far : Gathers done old) where
    more : (t : List Provision → Bool) → count_by t (done ++ run ∷ []) ≡ count_by t done + cond (t run) 1 0
    more t = omega (arith, count-append t done (run ∷ []), count-cons t run [])

    numbers_more : (bound : Option (Relop × ℕ)) → count_gathered bound new.numbers ≡ count_by (list_any (passes (Number bound))) (done ++ run ∷ [])
    numbers_more bound = omega (arith, added_count old.numbers new.numbers adds so_far.fewer bound, so_far.within bound, more (list_any (passes (Number bound))))

    gathered_pairs : 2 * (count_pairs runs_differ (done ++ run ∷ []) + count_pairs is_same new.numbers.only.items) ≡ length new.numbers.least.items * length new.numbers.least.items + length new.numbers.least.items
    gathered_pairs =
        ap (λ (os : List ℕ). 2 * (count_pairs runs_differ (done ++ run ∷ []) + count_pairs is_same os)) adds.only
        ∙ pairs_given done run old.numbers.least.items old.numbers.greatest.items old.numbers.each.items old.numbers.only.items
        (λ bound. so_far.within bound ∙ ap (λ t. count_by t done) (λ i p. any_number bound p i)) so_far.fewer ns gives.up gives.same so_far.pairs
        ∙ ap (λ (ls : List ℕ). length ls * length ls + length ls) (sym adds.least)

    -- which gives all versions too
    pub gathers_mixed : list_any (λ g. is_none g.number) run ≡ true → new.unversioned ≡ old.unversioned + 1 → new.pure ≡ old.pure → Gathers (done ++ run ∷ []) new
    gathers_mixed some next same = record {
      within = numbers_more;
      pairs = gathered_pairs;
      fewer = added_fewer old.numbers new.numbers adds so_far.fewer;
      meeting = λ bound above.
          let all : cond (list_any (passes (Meeting bound)) run) 1 0 ≡ 1 = ap {B = ℕ} (λ b. cond b 1 0) (any_meets bound above run some) in
          omega (arith, ap (count_gathered bound) same, next, so_far.meeting bound above, more (list_any (passes (Meeting bound))), all);
      pure_fewer = omega (arith, ap (λ (u : PackageNumbers). length u.only.items) same, ap (λ (u : PackageNumbers). length u.least.items) same, so_far.pure_fewer);
    }

    -- which doesn't
    pub gathers_pure : list_any (λ g. is_none g.number) run ≡ false → new.unversioned ≡ old.unversioned → Adds ns old.pure new.pure → Gathers (done ++ run ∷ []) new
    gathers_pure none next pure = record {
      within = numbers_more;
      pairs = gathered_pairs;
      fewer = added_fewer old.numbers new.numbers adds so_far.fewer;
      meeting = λ bound above.
          let all : cond (list_any (passes (Number bound)) run) 1 0 ≡ cond (list_any (passes (Meeting bound)) run) 1 0 = ap {B = ℕ} (λ b. cond b 1 0) (none_meets bound run none) in
          omega (arith, added_count old.pure new.pure pure so_far.pure_fewer bound, next, so_far.meeting bound above, more (list_any (passes (Meeting bound))), all);
      pure_fewer = added_fewer old.pure new.pure pure so_far.pure_fewer;
    }

-- ---- all of them

pub counted_all : (done : List (List Provision)) (g : Gathering) (r : Givers) → Sorts g.numbers r.numbers → Sorts g.pure r.pure → r.unversioned ≡ g.unversioned
    → r.differing ≡ (length r.numbers.least * length r.numbers.least + length r.numbers.least - 2 * count_pairs is_same r.numbers.only) / 2 → Gathers done g → Counted done r
counted_all done g r numbers pure unversioned differing gathered = record {
  meeting = λ bound. by bound (is_below_one bound) refl;
  giving = λ bound. numbers.within bound ∙ gathered.within bound;
  differing = omega (arith, differing, gathered.pairs, numbers.pairs, ap (λ n. n * n + n) (numbers.within None));
}
  where
    by : (bound : Option (Relop × ℕ)) (b : Bool) → is_below_one bound ≡ b → (if b then count_within bound r.numbers else r.unversioned + count_within bound r.pure) ≡ count_by (list_any (passes (Meeting bound))) done
    by bound true below = numbers.within bound ∙ gathered.within bound ∙ ap (λ (t : Provision → Bool). count_by (list_any t) done) (λ i q. below_meets bound below q i)
    by bound false above = omega (arith, unversioned, pure.within bound, gathered.meeting bound above)
