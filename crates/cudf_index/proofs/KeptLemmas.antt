-- What is kept of a name is what the status gives of it.
use Rattle.std.proofs.Common.{◌≡◌, ℕ, zero, suc, Bool, true, false, cond, List, [], ◌∷◌, map, Option, Some, None, sym, ap, ◌∙◌, arith, bytes_eq, subst, Bor}
use Rattle.std.specs.Prelude.{filter_map, slice_get}
use Rattle.std.specs.Option.{is_none, is_some, IfSome}
use Rattle.std.specs.List.{count_by, list_any}
use Rattle.cudf_index.specs.declared.index.gathered_names.Entries.{Entries}
use Rattle.cudf_index.specs.declared.index.gathered_names.Provision.{Provision}
use Rattle.cudf_index.specs.Satisfaction.{Placed}
use Rattle.cudf_index.specs.Working.Kept.{Keeps, IsSole, found}
use Rattle.cudf_index.specs.Working.Gathering.{row_items, given_of, sole_place, BothAt, Completes, CompletesAt}
use Rattle.cudf_index.proofs.GatheringLemmas.{numbers_given, names_given_all}
use Rattle.cudf_index.proofs.SearchLemmas.{found_place}
use Rattle.cudf_index.proofs.TreeLemmas.{sole_given}
use Rattle.cudf_index.proofs.VersionLemmas.{version_given}

-- what is at each place is at the place of a key
pub both_found : {R E K : Type 0} (Same : R → E → Type 0) (test : K → Bool) (keys : List K) (rows : List R) (kept : List E) → ((k : ℕ) → BothAt Same (slice_get rows k) (slice_get kept k)) → BothAt Same (found test keys rows) (found test keys kept)
both_found Same test [] rows kept whole = tt
both_found Same test (k ∷ ks) [] [] whole = tt
both_found Same test (k ∷ ks) [] (e ∷ es) whole = absurd (whole zero)
both_found Same test (k ∷ ks) (r ∷ rs) [] whole = absurd (whole zero)
both_found Same test (k ∷ ks) (r ∷ rs) (e ∷ es) whole = by (test k) (both_found Same test ks rs es (λ j. whole (suc j)))
  where
    by : (b : Bool) → BothAt Same (found test ks rs) (found test ks es) → BothAt Same (cond b (Some r) (found test ks rs)) (cond b (Some e) (found test ks es))
    by true rest = whole zero
    by false rest = rest

module _ (f : List ℕ) where
  -- a package of the name, and only it, gives a version
  versions_given : (status : List Placed) → list_any (λ p. bytes_eq p.1.name f) status ≡ list_any (λ g. g.is_version) (given_of f status)
  versions_given status =
      sym (found_place (λ p. p.0) (λ p. bytes_eq p.1.name f) status)
      ∙ ap is_some (sym (version_given f status)) ∙ found_place (λ (g : Provision). g.place) (λ g. g.is_version) (given_of f status)

  keeps_row : (status : List Placed) (o : Option (List Provision)) (e : Option Entries) → CompletesAt o e → row_items o ≡ given_of f status → Keeps f status e
  keeps_row status None None whole same = record {
    ascending = λ i j d up inside. absurd (omega arith);
    numbers = λ p. ap (λ row. count_by p (filter_map (λ g. g.number) row)) same ∙ ap (count_by p) (sym (numbers_given f status));
    unversioned = ap (count_by (λ g. is_none g.number)) same ∙ sym (names_given_all f status);
    sole = tt;
    is_package = ap (list_any (λ g. g.is_version)) same ∙ sym (versions_given status);
  }
  keeps_row status (Some row) None whole same = absurd whole
  keeps_row status None (Some e) whole same = absurd whole
  keeps_row status (Some row) (Some e) whole same = record {
    ascending = whole.ascending;
    numbers = λ p. whole.numbers p ∙ ap (λ r. count_by p (filter_map (λ g. g.number) r)) same ∙ ap (count_by p) (sym (numbers_given f status));
    unversioned = whole.unversioned ∙ ap (count_by (λ g. is_none g.number)) same ∙ sym (names_given_all f status);
    sole = subst (λ o. IfSome o (IsSole f status)) (sym (whole.sole ∙ ap (λ r. sole_place (map (λ g. g.place) r)) same)) (sole_given f status);
    is_package = whole.is_package ∙ ap (list_any (λ g. g.is_version)) same ∙ sym (versions_given status);
  }

  pub keeps_found : (status : List Placed) (keys : List (Bor (List ℕ))) (rows : List (List Provision)) (entries : List Entries) → ((k : ℕ) → CompletesAt (slice_get rows k) (slice_get entries k)) → row_items (found (λ k. bytes_eq f k.now) keys rows) ≡ given_of f status
      → Keeps f status (found (λ k. bytes_eq f k.now) keys entries)
  keeps_found status keys rows entries whole same =
      keeps_row status (found (λ k. bytes_eq f k.now) keys rows) (found (λ k. bytes_eq f k.now) keys entries)
      (both_found Completes (λ k. bytes_eq f k.now) keys rows entries whole)
      same
