-- Where a walk goes on: the stops ahead of a position are those from its numbers on.
use Rattle.std.proofs.Common.{◌≡◌, ℕ, ◌+◌, ◌-◌, true, List, [], ◌∷◌, ◌++◌, length, map, filter, drop, refl, ap, sym, ◌∙◌, subst, arith, Option, Some, None, append_assoc}
use Rattle.std.specs.Prelude.{slice_get}
use Rattle.std.specs.List.{flat_map, enumerate_from}
use Rattle.std.proofs.lemmas.List.{length-map}
use Rattle.std.proofs.lemmas.List.Elements.{filter-append}
use Rattle.std.proofs.lemmas.List.FromFn.{length-enumerate_from}
use Rattle.std.proofs.Math.ListN.{drop_of_length-le}
use Rattle.cudf_problem.specs.declared.package.Package.{Package}
use Rattle.cudf_problem.specs.Promises.Views.{package_view}
use Rattle.cudf_problem.specs.Universe.{PlainPackage}
use Rattle.cudf_index.specs.Satisfaction.{Placed}
use Rattle.cudf_job.specs.declared.key.Part.TheVariants as part
use Rattle.cudf_job.specs.Keys.{PlainKey, is_key}
use Rattle.cudf_job.specs.Promises.Keys.{is_fitting}
use Rattle.cudf_referee.specs.Proposals.{Proposal}
use Rattle.cudf_referee.specs.Promises.Stops.{stop_at, package_stops, PlainPosition, at_start, at_key, precedes, is_after, is_ahead}
use Rattle.cudf_referee.specs.declared.left.PackageInstancesLeft.{PackageInstancesLeft}
use Rattle.cudf_referee.specs.declared.left.RequestInstancesLeft.{RequestInstancesLeft}
use Rattle.cudf_referee.specs.Promises.Walks.{Walking}
use Rattle.cudf_referee.specs.Violations.{package_instances, request_instances}
use Rattle.cudf_referee.specs.Working.RequestInstancesLeft.{request_left_view}
use Rattle.cudf_referee.specs.Working.PackageInstancesLeft.{left_in}
use Rattle.cudf_referee.specs.Working.Places.{ahead, IsFitting, BeginsAt}
use Rattle.cudf_referee.specs.Working.Searches.{packages_rest, request_rest, unknown_rest, stops_from}
use Rattle.cudf_referee.proofs.AheadLemmas.{ranks_of, packages_after, packages_before, request-later, request-earlier, package_counted}
use Rattle.cudf_referee.proofs.AscentLemmas.{Below}
use Rattle.cudf_referee.proofs.ListLemmas.{filter-map, all_kept}
use Rattle.cudf_referee.proofs.PlaceLemmas.{known_stops, unknown_stops, walk-split, ahead_unknown}
use Rattle.cudf_referee.proofs.SearchLemmas.{rest-whole}

module _ (s : Proposal) where
  abbrev packages : List Placed
  packages = enumerate_from 1 s.problem.packages

  -- the three parts of the walk, each kept as far as it lies ahead
  from-parts : (old : PlainPosition) (n : ℕ) (k : Option PackageInstancesLeft) (r : RequestInstancesLeft) (u : ℕ) → IsFitting old → BeginsAt old s.unknown u
      → filter (is_ahead old) (flat_map (package_stops s) packages) ≡ packages_rest s k (drop n packages)
      → filter (is_ahead old) (map stop_at (request_instances s.problem.request)) ≡ request_rest s r
      → stops_from s (record { packages = n; begun = k; request = r; unknown = u }) ≡ ahead s old
  from-parts old n k r u fits begins h h' = sym (
      ap (filter (is_ahead old)) (walk-split s)
      ∙ filter-append (is_ahead old) (known_stops s) (unknown_stops s.unknown)
      ∙ (λ i. (filter-append (is_ahead old) (flat_map (package_stops s) packages) (map stop_at (request_instances s.problem.request)) ∙ (λ j. h j ++ h' j)) i
      ++ (ahead_unknown old s.unknown fits ∙ ap unknown_stops begins.begins) i)
      ∙ append_assoc (packages_rest s k (drop n packages)) (request_rest s r) (unknown_rest s u)
      )

  past-packages : [] ≡ packages_rest s None (drop (length s.problem.packages) packages)
  past-packages = ap (packages_rest s None) (sym (drop_of_length-le packages (omega (arith, length-enumerate_from 1 s.problem.packages))))

  of-request : (key : PlainKey) (r : RequestInstancesLeft) → filter (λ x. precedes key x.key) (request_instances s.problem.request) ≡ request_left_view s.problem.request r
      → filter (is_after key) (map stop_at (request_instances s.problem.request)) ≡ request_rest s r
  of-request key r h = filter-map (is_after key) stop_at (request_instances s.problem.request) ∙ ap (map stop_at) h

  pub at-start : (r : RequestInstancesLeft) (u : ℕ) → request_left_view s.problem.request r ≡ request_instances s.problem.request → BeginsAt at_start s.unknown u
      → stops_from s (record { packages = 0; begun = None; request = r; unknown = u }) ≡ ahead s at_start
  at-start r u whole begins = from-parts at_start 0 None r u tt begins
      (all_kept (is_ahead at_start) (λ x. refl) (flat_map (package_stops s) packages) ∙ sym (rest-whole s packages))
      (all_kept (is_ahead at_start) (λ x. refl) (map stop_at (request_instances s.problem.request)) ∙ ap (map stop_at) (sym whole))

  module _ (key : PlainKey) (fits : is_fitting key ≡ true) where
    pub behind-package : (n : ℕ) (k : Option PackageInstancesLeft) (r : RequestInstancesLeft) (u : ℕ) → key.part ≡ part.Package n → request_left_view s.problem.request r ≡ request_instances s.problem.request → BeginsAt (at_key key) s.unknown u
        → ((p : PlainPackage) → slice_get s.problem.packages (n - 1) ≡ Some p → filter (λ x. precedes key x.key) (package_instances s (n - 1 + 1, p)) ≡ left_in s k (n - 1 + 1, p))
        → stops_from s (record { packages = n - 1; begun = k; request = r; unknown = u }) ≡ ahead s (at_key key)
    behind-package n k r u of whole begins own =
        let counted = package_counted n key.rule key.place key.aspect (ap (λ p. is_key p key.rule key.place key.aspect) (sym of) ∙ fits) in
        let number : n - 1 + 1 ≡ n = omega arith in
        from-parts (at_key key) (n - 1) k r u fits begins
        (packages_after s key k n 1 (n - 1) s.problem.packages of (omega arith)
        (λ p is. subst (λ (m : ℕ). filter (λ x. precedes key x.key) (package_instances s (m, p)) ≡ left_in s k (m, p)) number (own p is)))
        (of-request key r (request-later key s.problem.request
        (subst (λ (l : List ℕ). Below l (2 ∷ [])) (ranks_of key (part.Package n) of) refl) ∙ sym whole))

    pub behind-request : (n : ℕ) (r : RequestInstancesLeft) (u : ℕ) → n ≡ length s.problem.packages → key.part ≡ part.Request → BeginsAt (at_key key) s.unknown u
        → filter (λ x. precedes key x.key) (request_instances s.problem.request) ≡ request_left_view s.problem.request r
        → stops_from s (record { packages = n; begun = None; request = r; unknown = u }) ≡ ahead s (at_key key)
    behind-request n r u count of begins left = from-parts (at_key key) n None r u fits begins
        (packages_before s key (subst (λ (l : List ℕ). Below (2 ∷ []) l) (ranks_of key part.Request of) refl) ∙ past-packages ∙ ap (λ m. packages_rest s None (drop m packages)) (sym count))
        (of-request key r left)

    pub behind-solution : (n : ℕ) (r : RequestInstancesLeft) (u : ℕ) → n ≡ length s.problem.packages → request_left_view s.problem.request r ≡ [] → key.part ≡ part.Solution → BeginsAt (at_key key) s.unknown u
        → stops_from s (record { packages = n; begun = None; request = r; unknown = u }) ≡ ahead s (at_key key)
    behind-solution n r u count none of begins = from-parts (at_key key) n None r u fits begins
        (packages_before s key (subst (λ (l : List ℕ). Below (2 ∷ []) l) (ranks_of key part.Solution of) refl) ∙ past-packages ∙ ap (λ m. packages_rest s None (drop m packages)) (sym count))
        (of-request key r (request-earlier key s.problem.request (subst (λ (l : List ℕ). Below (3 ∷ []) l) (ranks_of key part.Solution of) refl) ∙ sym none))

-- ---- what a walk is seen as

pub count-same : (a b : Walking) (ys : List Package) → map package_view ys ≡ a.judged.problem.packages → a ≡ b → length ys ≡ length b.judged.problem.packages
count-same a b ys is same = sym (length-map ys package_view) ∙ ap length is ∙ ap (λ (w : Walking). length w.judged.problem.packages) same
