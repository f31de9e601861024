-- The keys of the listing can be written, where the places in lists and the numbers of stanzas are those of a `u64`.
use Rattle.std.proofs.Common.{◌≡◌, ℕ, ◌+◌, ◌<◌, ◌^◌, true, ◌&&◌, ◌∙◌, nat_lt, List, [], ◌∷◌, length, get_or, map, Option, Some, None, arith, refl, subst}
use Rattle.std.specs.Prelude.{All}
use Rattle.std.proofs.lemmas.Bool.{ltb-true, lt-ltb}
use Rattle.std.proofs.lemmas.List.{length-map}
use Rattle.std.proofs.lemmas.List.Elements.{All-nil, All-cons, All-head, All-tail}
use Rattle.cudf_value.specs.Vpkgs.{PlainVpkg}
use Rattle.cudf_problem.specs.declared.solution.InstalledPair.{InstalledPair}
use Rattle.cudf_problem.specs.Statuses.{PlainUnknown, ascend_above}
use Rattle.cudf_problem.specs.Promises.Views.{unknown_view}
use Rattle.cudf_job.specs.declared.key.Part.TheVariants as part
use Rattle.cudf_job.specs.declared.key.Rule.{Rule}
use Rattle.cudf_job.specs.declared.key.Rule.TheVariants as rule
use Rattle.cudf_job.specs.declared.key.Aspect.{Aspect}
use Rattle.cudf_referee.specs.Instances.{PlainInstance}
use Rattle.cudf_job.specs.Promises.Keys.{IsWritable}
use Rattle.cudf_job.specs.Keys.{fits}
use Rattle.cudf_job.specs.Working.Keys.{package_key, request_key}
use Rattle.cudf_referee.specs.Proposals.{Proposal}
use Rattle.cudf_referee.specs.Violations.{unknown_instance, instances, is_violated, listing}
use Rattle.cudf_referee.specs.Working.Numbered.{IsListed, IsNumbered}
use Rattle.cudf_referee.specs.Working.Places.{stanza_numbers}
use Rattle.std.specs.Prelude.{slice_get}
use Rattle.std.proofs.lemmas.Option.{slice_get_within}
use Rattle.std.proofs.lemmas.List.Elements.{All-filter}
use Rattle.cudf_problem.specs.Universe.{PlainPackage}
use Rattle.cudf_referee.proofs.EachLemmas.{Each, all-instances}
use Rattle.cudf_referee.proofs.SearchLemmas.{all-at}
use Rattle.cudf_referee.proofs.ListLemmas.{and_left, and_right}

abbrev Written : PlainInstance → Type 0
Written i = IsWritable i.key

-- ---- packages and the request

module _ (s : Proposal) (n : IsNumbered s) where
  package_written : {A : Type 0} (i : ℕ) (p : PlainPackage) → slice_get s.problem.packages i ≡ Some p → (xs : List A) (j : ℕ) (x : A) → slice_get xs j ≡ Some x → length xs < 2 ^ 64
      → (r : Rule) → ((m : ℕ) → fits (part.Package m) r None ≡ nat_lt 0 m) → IsWritable (package_key (i + 1) r (j + 1))
  package_written i p is xs j x at small r fit = record {
    fits = λ k. (fit (i + 1) ∙ lt-ltb 0 (i + 1) (omega arith)) k && lt-ltb 0 (j + 1) (omega arith) k;
    number = omega (arith, slice_get_within s.problem.packages i p is, n.packages);
    place = omega (arith, slice_get_within xs j x at);
  }

  request_written : (xs : List PlainVpkg) (j : ℕ) (v : PlainVpkg) → slice_get xs j ≡ Some v → length xs < 2 ^ 64 → (r : Rule) (a : Option Aspect) → fits part.Request r a ≡ true → IsWritable (request_key r (j + 1) a)
  request_written xs j v at small r a fit = record {
    fits = λ k. fit k && lt-ltb 0 (j + 1) (omega arith) k;
    number = omega arith;
    place = omega (arith, slice_get_within xs j v at);
  }

  listed : (i : ℕ) (p : PlainPackage) → slice_get s.problem.packages i ≡ Some p → IsListed p
  listed i p is = all-at IsListed s.problem.packages i p is n.each

-- ---- the solution

abbrev IsSmall : PlainUnknown → Type 0
IsSmall u = u.stanza < 2 ^ 64

unknown_written : (n : ℕ) (us : List PlainUnknown) → ascend_above n us ≡ true → All IsSmall us → All Written (map unknown_instance us)
unknown_written n [] ascends small = All-nil Written
unknown_written n (u ∷ us) ascends small =
    All-cons Written (unknown_instance u) (map unknown_instance us)
    (record {
      fits = lt-ltb 0 u.stanza (omega (arith, ltb-true n u.stanza (and_left (nat_lt n u.stanza) (ascend_above u.stanza us) ascends)));
      number = omega arith;
      place = All-head IsSmall u us small;
    })
    (unknown_written u.stanza us (and_right (nat_lt n u.stanza) (ascend_above u.stanza us) ascends) (All-tail IsSmall u us small))

-- the last of the numbers is the greatest
below_last : (n : ℕ) (u : PlainUnknown) (us : List PlainUnknown) → ascend_above n (u ∷ us) ≡ true → get_or (stanza_numbers (u ∷ us)) (length us) 0 < 2 ^ 64 → All IsSmall (u ∷ us)
below_last n u [] ascends last = All-cons IsSmall u [] last (All-nil IsSmall)
below_last n u (v ∷ us) ascends last =
    let rest = and_right (nat_lt n u.stanza) (ascend_above u.stanza (v ∷ us)) ascends in
    let later = below_last u.stanza v us rest last in
    let small : v.stanza < 2 ^ 64 = All-head IsSmall v us later in
    let less : u.stanza < v.stanza = ltb-true u.stanza v.stanza (and_left (nat_lt u.stanza v.stanza) (ascend_above v.stanza us) rest) in
    All-cons IsSmall u (v ∷ us) (omega arith) later

all_small : (us : List PlainUnknown) (place : ℕ) → ascend_above 0 us ≡ true → place + 1 ≡ length us → get_or (stanza_numbers us) place 0 < 2 ^ 64 → All IsSmall us
all_small [] place ascends whole last = All-nil IsSmall
all_small (u ∷ us) place ascends whole last =
    let same : place ≡ length us = omega arith in
    below_last 0 u us ascends (subst (λ k. get_or (stanza_numbers (u ∷ us)) k 0 < 2 ^ 64) same last)

pub numbers_small : (unknown : List InstalledPair) (place last : ℕ) → ascend_above 0 (map unknown_view unknown) ≡ true → place + 1 ≡ length unknown
    → last ≡ get_or (stanza_numbers (map unknown_view unknown)) place 0 → last < 2 ^ 64 → All IsSmall (map unknown_view unknown)
numbers_small unknown place last ascends whole is small =
    all_small (map unknown_view unknown) place ascends (omega (arith, length-map unknown unknown_view)) (subst (λ n. n < 2 ^ 64) is small)

-- ---- the listing

each_written : (s : Proposal) → ascend_above 0 s.unknown ≡ true → IsNumbered s → Each Written s
each_written s ascends n = record {
  depends = λ i p is j c at. package_written s n i p is p.depends j c at (listed s n i p is).depends rule.Depends (λ m. refl);
  conflicts = λ i p is j v at. package_written s n i p is p.conflicts j v at (listed s n i p is).conflicts rule.Conflicts (λ m. refl);
  version = λ i p is. package_written s n i p is (p ∷ []) 0 p refl (omega arith) rule.Keep (λ m. refl);
  name = λ i p is keeps. package_written s n i p is (p ∷ []) 0 p refl (omega arith) rule.Keep (λ m. refl);
  feature = λ i p is j v at. package_written s n i p is p.provides j v at (listed s n i p is).provides rule.Keep (λ m. refl);
  install = λ j v at. request_written s n s.problem.request.install j v at n.install rule.Install None refl;
  remove = λ j v at. request_written s n s.problem.request.remove j v at n.remove rule.Remove None refl;
  upgrade = λ j v at aspect. request_written s n s.problem.request.upgrade j v at n.upgrade rule.Upgrade (Some aspect) refl;
  unknown = unknown_written 0 s.unknown ascends n.stanzas;
}

pub listing_written : (s : Proposal) → ascend_above 0 s.unknown ≡ true → IsNumbered s → All Written (listing s)
unfolding listing
listing_written s ascends n = All-filter (is_violated s) Written (instances s) (all-instances Written s (each_written s ascends n))
