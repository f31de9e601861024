-- The stops of the walk that come after a key: those after the number of places that the key has passed.
use Rattle.std.proofs.Common.{◌≡◌, ℕ, zero, suc, ◌==◌, ◌+◌, ◌<◌, Bool, true, false, nat_lt, nat_le, List, [], ◌∷◌, ◌++◌, map, filter, drop, cond, arith, refl, ap, sym, ◌∙◌, subst, Option, Some, None}
use Rattle.std.specs.Prelude.{slice_get}
use Rattle.std.proofs.lemmas.Bool.{ltb-true}
use Rattle.std.proofs.lemmas.Bool.Decides.{nat_tests}
use Rattle.std.proofs.lemmas.Cmp.{nat_list_cmp_total}
use Rattle.std.proofs.lemmas.List.Elements.{filter-append, filter_agree}
use Rattle.std.specs.Cmp.{nat_cmp_is}
use Rattle.std.specs.Cmp.Lexicographic.{slice_cmp}
use Rattle.std.specs.List.{flat_map, enumerate_from}
use Rattle.std.specs.Ordering.{nat_cmp, ordering_then, ordering_reverse, is_lt}
use Rattle.std.specs.declared.cmp.Ordering.TheVariants.{Less, Equal, Greater}
use Rattle.cudf_problem.specs.Universe.{PlainPackage, PlainRequest}
use Rattle.cudf_problem.specs.Statuses.{PlainUnknown}
use Rattle.cudf_index.specs.Satisfaction.{Placed}
use Rattle.cudf_job.specs.declared.key.Part.{Part}
use Rattle.cudf_job.specs.declared.key.Part.TheVariants as part
use Rattle.cudf_job.specs.declared.key.Rule.{Rule}
use Rattle.cudf_job.specs.declared.key.Rule.TheVariants as rule
use Rattle.cudf_job.specs.declared.key.Aspect.{Aspect}
use Rattle.cudf_referee.specs.declared.left.PackageInstancesLeft.{PackageInstancesLeft}
use Rattle.cudf_job.specs.Keys.{PlainKey, key_of, part_row, part_place, is_key, rule_row, aspect_row, key_ranks}
use Rattle.cudf_referee.specs.Proposals.{Proposal}
use Rattle.cudf_referee.specs.Violations.{package_instances, request_instances, unknown_instance}
use Rattle.cudf_referee.specs.Promises.Stops.{Stop, stop_at, package_end, package_stops, precedes, precedes_end, is_after}
use Rattle.cudf_referee.specs.Working.Searches.{unknown_left, package_rest, packages_rest}
use Rattle.cudf_referee.specs.Working.PackageInstancesLeft.{left_in}
use Rattle.cudf_referee.proofs.AscentLemmas.{Below, same_first, less_first, Climbs, from_lower, to_higher, climbs-over, instance_ranks, package_climbs, packages_climb, request_climbs}
use Rattle.cudf_referee.proofs.ListLemmas.{and_left, filter-map, all_kept}
use Rattle.cudf_referee.proofs.PositionLemmas.{stop_ranks, is_after-ranks}

-- ---- what comes after ranks

abbrev pub ranks_after : {A : Type 0} → List ℕ → (A → List ℕ) → A → Bool
ranks_after low ranks x = is_lt (slice_cmp nat_cmp low (ranks x))

-- what comes before doesn't come after
pub not_below : (a b : List ℕ) → Below a b → is_lt (slice_cmp nat_cmp b a) ≡ false
not_below a b h = ap is_lt (nat_list_cmp_total.antisymm b a ∙ ap ordering_reverse h)

-- all come after what they climb from
pub kept_above : {A : Type 0} (ranks : A → List ℕ) (low : List ℕ) (xs : List A) (high : List ℕ) → Climbs ranks low xs high → filter (ranks_after low ranks) xs ≡ xs
kept_above ranks low [] high h = refl
kept_above ranks low (x ∷ xs) high h =
    let more = kept_above ranks low xs high (from_lower ranks low (ranks x) high xs h.0 h.1) in
    (λ i. cond (is_lt (h.0 i)) (x ∷ more i) (more i))

-- none comes after what they climb to
dropped_below : {A : Type 0} (ranks : A → List ℕ) (low : List ℕ) (xs : List A) (high : List ℕ) → Climbs ranks low xs high → filter (ranks_after high ranks) xs ≡ []
dropped_below ranks low [] high h = refl
dropped_below ranks low (x ∷ xs) high h =
    let more = dropped_below ranks (ranks x) xs high h.1 in
    (λ i. cond (not_below (ranks x) high (climbs-over ranks (ranks x) xs high h.1) i) (x ∷ more i) (more i))

pub after-ranks : (key : PlainKey) (xs : List Stop) → filter (is_after key) xs ≡ filter (ranks_after (key_ranks key) stop_ranks) xs
after-ranks key xs = filter_agree (is_after key) (ranks_after (key_ranks key) stop_ranks) (is_after-ranks key) xs

drop-none : {A : Type 0} (n : ℕ) → drop {A = A} n [] ≡ []
drop-none zero = refl
drop-none (suc n) = refl

-- without an aspect the place decides
place_decides : (place k aspect : ℕ) → is_lt (ordering_then (nat_cmp place k) (slice_cmp nat_cmp (aspect ∷ []) (0 ∷ []))) ≡ nat_lt place k
place_decides place k aspect = by (nat_lt place k) (place == k) aspect
  where
    by : (below same : Bool) (aspect : ℕ) → is_lt (ordering_then (cond below Less (cond same Equal Greater)) (slice_cmp nat_cmp (aspect ∷ []) (0 ∷ []))) ≡ below
    by true same aspect = refl
    by false false aspect = refl
    by false true zero = refl
    by false true (suc n) = sym (ap (λ o. is_lt (ordering_then o Equal)) (nat_cmp_is (suc n) 0 Greater (omega arith)))

-- ---- the packages before and after it

-- the ranks of a key of this part
pub ranks_of : (key : PlainKey) (p : Part) → key.part ≡ p → ((part_row p).0 ∷ part_place p ∷ (rule_row key.rule).0 ∷ key.place ∷ (aspect_row key.aspect).0 ∷ []) ≡ key_ranks key
ranks_of key p of = ap (λ q. (part_row q).0 ∷ part_place q ∷ (rule_row key.rule).0 ∷ key.place ∷ (aspect_row key.aspect).0 ∷ []) (sym of)

module _ (s : Proposal) (key : PlainKey) where
  -- a key's ranks after its package
  abbrev more : List ℕ
  more = (rule_row key.rule).0 ∷ key.place ∷ (aspect_row key.aspect).0 ∷ []

  earlier_package : (n : ℕ) (p : Placed) → key.part ≡ part.Package n → p.0 < n → filter (is_after key) (package_stops s p) ≡ []
  earlier_package n p of h =
      after-ranks key (package_stops s p)
      ∙ dropped_below stop_ranks (1 ∷ p.0 ∷ []) (package_stops s p) (key_ranks key)
      (to_higher stop_ranks (1 ∷ p.0 ∷ []) (1 ∷ p.0 ∷ 9 ∷ []) (key_ranks key) (package_stops s p) (package_climbs s p)
      (subst (λ (l : List ℕ). Below (1 ∷ p.0 ∷ 9 ∷ []) l) (ranks_of key (part.Package n) of) (same_first 1 (p.0 ∷ 9 ∷ []) (n ∷ more) (less_first p.0 n (9 ∷ []) more h))))

  later_packages : (n m : ℕ) (packages : List PlainPackage) → key.part ≡ part.Package n → n < m
      → filter (is_after key) (flat_map (package_stops s) (enumerate_from m packages)) ≡ flat_map (package_stops s) (enumerate_from m packages)
  later_packages n m packages of h =
      let stops = flat_map (package_stops s) (enumerate_from m packages) in
      after-ranks key stops
      ∙ kept_above stop_ranks (key_ranks key) stops (2 ∷ [])
      (from_lower stop_ranks (key_ranks key) (1 ∷ m ∷ []) (2 ∷ []) stops
      (subst (λ (l : List ℕ). Below l (1 ∷ m ∷ [])) (ranks_of key (part.Package n) of) (same_first 1 (n ∷ more) (m ∷ []) (less_first n m more [] h)))
      (packages_climb s m packages))

  -- the key's own package, of whose places these are left
  own_package : (k : Option PackageInstancesLeft) (p : Placed) → key.part ≡ part.Package p.0 → filter (λ x. precedes key x.key) (package_instances s p) ≡ left_in s k p
      → filter (is_after key) (package_stops s p) ≡ package_rest s k p
  own_package k p of left =
      filter-append (is_after key) (map stop_at (package_instances s p)) (package_end p.0 ∷ [])
      ∙ (λ i. (filter-map (is_after key) stop_at (package_instances s p) ∙ ap (map stop_at) left) i
      ++ cond ((ap (λ q. precedes_end q p.0) of ∙ itself) i) (package_end p.0 ∷ []) [])
    where
      itself : nat_le p.0 p.0 ≡ true
      itself = grind (arith, nat_tests)

  pub packages_after : (k : Option PackageInstancesLeft) (n m i : ℕ) (packages : List PlainPackage) → key.part ≡ part.Package n → n ≡ m + i
      → ((p : PlainPackage) → slice_get packages i ≡ Some p → filter (λ x. precedes key x.key) (package_instances s (n, p)) ≡ left_in s k (n, p))
      → filter (is_after key) (flat_map (package_stops s) (enumerate_from m packages)) ≡ packages_rest s k (drop i (enumerate_from m packages))
  packages_after k n m i [] of h own = ap (packages_rest s k) (sym (drop-none i))
  packages_after k n m zero (x ∷ packages) of h own =
      filter-append (is_after key) (package_stops s (m, x)) (flat_map (package_stops s) (enumerate_from (m + 1) packages))
      ∙ (λ j. here j ++ later_packages n (m + 1) packages of (omega arith) j)
    where
      number : n ≡ m
      number = omega arith

      here : filter (is_after key) (package_stops s (m, x)) ≡ package_rest s k (m, x)
      here = subst (λ (l : ℕ). filter (is_after key) (package_stops s (l, x)) ≡ package_rest s k (l, x)) number (own_package k (n, x) of (own x refl))
  packages_after k n m (suc i) (x ∷ packages) of h own =
      filter-append (is_after key) (package_stops s (m, x)) (flat_map (package_stops s) (enumerate_from (m + 1) packages))
      ∙ (λ j. earlier_package n (m, x) of (omega arith) j ++ packages_after k n (m + 1) i packages of (omega arith) own j)

-- a key of another part comes after all packages
pub packages_before : (s : Proposal) (key : PlainKey) → Below (2 ∷ []) (key_ranks key) → filter (is_after key) (flat_map (package_stops s) (enumerate_from 1 s.problem.packages)) ≡ []
packages_before s key h =
    let stops = flat_map (package_stops s) (enumerate_from 1 s.problem.packages) in
    after-ranks key stops ∙ dropped_below stop_ranks (1 ∷ 1 ∷ []) stops (key_ranks key)
    (to_higher stop_ranks (1 ∷ 1 ∷ []) (2 ∷ []) (key_ranks key) stops (packages_climb s 1 s.problem.packages) h)

-- ---- the request

pub package_counted : (n : ℕ) (r : Rule) (place : ℕ) (aspect : Option Aspect) → is_key (part.Package n) r place aspect ≡ true → 0 < n
package_counted n rule.Depends place None h = ltb-true 0 n (and_left (nat_lt 0 n) (nat_lt 0 place) h)
package_counted n rule.Conflicts place None h = ltb-true 0 n (and_left (nat_lt 0 n) (nat_lt 0 place) h)
package_counted n rule.Keep place None h = ltb-true 0 n (and_left (nat_lt 0 n) (nat_lt 0 place) h)
package_counted n r place aspect h = absurd (cc h)

-- ---- the solution

pub unknown_after : (place : ℕ) (aspect : Option Aspect) (unknown : List PlainUnknown)
    → filter (λ x. precedes (key_of part.Solution rule.Unknown place aspect) x.key) (map unknown_instance unknown) ≡ map unknown_instance (unknown_left place unknown)
unknown_after place aspect unknown =
    filter-map (λ x. precedes (key_of part.Solution rule.Unknown place aspect) x.key) unknown_instance unknown
    ∙ ap (map unknown_instance) (filter_agree (λ u. precedes (key_of part.Solution rule.Unknown place aspect) (unknown_instance u).key) (λ u. nat_lt place u.stanza)
    (λ u. place_decides place u.stanza (aspect_row aspect).0) unknown)

-- the unknown stanzas come after the keys of the other parts
pub all_unknown_after : (key : PlainKey) → ((u : PlainUnknown) → precedes key (unknown_instance u).key ≡ true) → (unknown : List PlainUnknown)
    → filter (λ x. precedes key x.key) (map unknown_instance unknown) ≡ map unknown_instance unknown
all_unknown_after key h unknown =
    filter-map (λ x. precedes key x.key) unknown_instance unknown
    ∙ ap (map unknown_instance) (all_kept (λ u. precedes key (unknown_instance u).key) h unknown)

-- ---- the walk

-- the whole request comes after the keys of packages
pub request-later : (key : PlainKey) (r : PlainRequest) → Below (key_ranks key) (2 ∷ []) → filter (λ x. precedes key x.key) (request_instances r) ≡ request_instances r
request-later key r h = kept_above instance_ranks (key_ranks key) (request_instances r) (3 ∷ []) (from_lower instance_ranks (key_ranks key) (2 ∷ []) (3 ∷ []) (request_instances r) h (request_climbs r))

-- and none of it after those of the solution
pub request-earlier : (key : PlainKey) (r : PlainRequest) → Below (3 ∷ []) (key_ranks key) → filter (λ x. precedes key x.key) (request_instances r) ≡ []
request-earlier key r h = dropped_below instance_ranks (2 ∷ []) (request_instances r) (key_ranks key) (to_higher instance_ranks (2 ∷ []) (3 ∷ []) (key_ranks key) (request_instances r) (request_climbs r) h)
