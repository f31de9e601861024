-- What holds of the instances of each rule holds of all instances of a proposal, and of the stops of its walk.
use Rattle.std.proofs.Common.{◌≡◌, ℕ, suc, ◌+◌, Bool, true, false, List, [], ◌∷◌, ◌++◌, map, cond, Some, refl, subst, arith}
use Rattle.std.specs.Prelude.{All, slice_get}
use Rattle.std.specs.List.{flat_map, enumerate_from}
use Rattle.std.proofs.lemmas.List.Elements.{All-nil, All-cons, All-head, All-tail, All-append, All-map}
use Rattle.cudf_value.specs.Formulas.{PlainAtom}
use Rattle.cudf_value.specs.Vpkgs.{PlainVpkg}
use Rattle.cudf_problem.specs.declared.package.Keep.{Keep}
use Rattle.cudf_problem.specs.declared.package.Keep.TheVariants.{Version, Package, Feature, Nothing}
use Rattle.cudf_problem.specs.Universe.{PlainPackage}
use Rattle.cudf_job.specs.declared.key.Aspect.{Aspect}
use Rattle.cudf_job.specs.declared.key.Aspect.TheVariants.{Unsatisfied, Many, Lower}
use Rattle.cudf_referee.specs.Instances.{keep_version, keep_package, keep_feature, PlainInstance}
use Rattle.cudf_referee.specs.Proposals.{Proposal, holds_place}
use Rattle.cudf_referee.specs.Promises.Stops.{stop_at, package_end, package_stops, walk}
use Rattle.cudf_referee.specs.Violations.{unknown_instance, needed_instances, kept_instances, package_instances, entry_instances, request_instances, instances}
use Rattle.cudf_referee.specs.Working.RuleInstances.{depends_instance, conflicts_instance, keep_instance, install_instance, remove_instance, upgrade_instance}
use Rattle.cudf_referee.specs.Working.Located.{OfStop}

-- it holds of the instances of each rule, where the element at index i has the number i + 1
pub record Each (P : PlainInstance → Type 0) (s : Proposal) : Type 0 where
  pub depends : (i : ℕ) (p : PlainPackage) → slice_get s.problem.packages i ≡ Some p → (j : ℕ) (c : List PlainAtom) → slice_get p.depends j ≡ Some c → P (depends_instance (i + 1, p) (j + 1) c)
  pub conflicts : (i : ℕ) (p : PlainPackage) → slice_get s.problem.packages i ≡ Some p → (j : ℕ) (v : PlainVpkg) → slice_get p.conflicts j ≡ Some v → P (conflicts_instance (i + 1, p) (j + 1) v)
  pub version : (i : ℕ) (p : PlainPackage) → slice_get s.problem.packages i ≡ Some p → P (keep_instance (i + 1, p) 1 keep_version)
  pub name : (i : ℕ) (p : PlainPackage) → slice_get s.problem.packages i ≡ Some p → p.keep ≡ Package → P (keep_instance (i + 1, p) 1 keep_package)
  pub feature : (i : ℕ) (p : PlainPackage) → slice_get s.problem.packages i ≡ Some p → (j : ℕ) (v : PlainVpkg) → slice_get p.provides j ≡ Some v → P (keep_instance (i + 1, p) (j + 1) (keep_feature v))
  pub install : (j : ℕ) (v : PlainVpkg) → slice_get s.problem.request.install j ≡ Some v → P (install_instance s.problem.request (j + 1) v)
  pub remove : (j : ℕ) (v : PlainVpkg) → slice_get s.problem.request.remove j ≡ Some v → P (remove_instance s.problem.request (j + 1) v)
  pub upgrade : (j : ℕ) (v : PlainVpkg) → slice_get s.problem.request.upgrade j ≡ Some v → (aspect : Aspect) → P (upgrade_instance s.problem.request aspect (j + 1) v)
  pub unknown : All P (map unknown_instance s.unknown)

-- ---- numbered elements

numbered : {A : Type 0} (P : ℕ × A → Type 0) (n : ℕ) (xs : List A) → ((i : ℕ) (x : A) → slice_get xs i ≡ Some x → P (i + n, x)) → All P (enumerate_from n xs)
numbered P n [] each = All-nil P
numbered P n (x ∷ xs) each =
    All-cons P (n, x) (enumerate_from (n + 1) xs)
    (subst (λ (m : ℕ). P (m, x)) {x = 0 + n} {y = n} (omega arith) (each 0 x refl))
    (numbered P (n + 1) xs (λ i y is. subst (λ (m : ℕ). P (m, y)) {x = suc i + n} {y = i + (n + 1)} (omega arith) (each (suc i) y is)))

made : {A B : Type 0} (P : B → Type 0) (make : ℕ → A → B) (xs : List A) → ((i : ℕ) (x : A) → slice_get xs i ≡ Some x → P (make (i + 1) x)) → All P (map (λ e. make e.0 e.1) (enumerate_from 1 xs))
made P make xs each = All-map P (λ e. make e.0 e.1) (enumerate_from 1 xs) (numbered (λ e. P (make e.0 e.1)) 1 xs each)

joined : {A B : Type 0} (P : B → Type 0) (f : A → List B) (xs : List A) → All (λ x. All P (f x)) xs → All P (flat_map f xs)
joined P f [] all = All-nil P
joined P f (x ∷ xs) all = All-append P (f x) (flat_map f xs) (All-head (λ x. All P (f x)) x xs all) (joined P f xs (All-tail (λ x. All P (f x)) x xs all))

if-all : {A : Type 0} (P : A → Type 0) (b : Bool) (xs : List A) → All P xs → All P (cond b xs [])
if-all P true xs all = all
if-all P false xs all = All-nil P

-- ---- the instances

module _ (P : PlainInstance → Type 0) (s : Proposal) (each : Each P s) where
  module _ (i : ℕ) (p : PlainPackage) (is : slice_get s.problem.packages i ≡ Some p) where
    needed : All P (needed_instances (i + 1, p))
    needed =
        All-append P (map (λ e. depends_instance (i + 1, p) e.0 e.1) (enumerate_from 1 p.depends)) (map (λ e. conflicts_instance (i + 1, p) e.0 e.1) (enumerate_from 1 p.conflicts))
        (made P (depends_instance (i + 1, p)) p.depends (each.depends i p is)) (made P (conflicts_instance (i + 1, p)) p.conflicts (each.conflicts i p is))

    kept : (k : Keep) → p.keep ≡ k → All P (kept_instances k (i + 1, p))
    kept Version same = All-cons P (keep_instance (i + 1, p) 1 keep_version) [] (each.version i p is) (All-nil P)
    kept Package same = All-cons P (keep_instance (i + 1, p) 1 keep_package) [] (each.name i p is same) (All-nil P)
    kept Feature same = made P (λ n v. keep_instance (i + 1, p) n (keep_feature v)) p.provides (each.feature i p is)
    kept Nothing same = All-nil P

    of-package : All P (package_instances s (i + 1, p))
    of-package =
        All-append P (cond (holds_place s.proposed (i + 1)) (needed_instances (i + 1, p)) []) (cond (holds_place s.initial (i + 1)) (kept_instances p.keep (i + 1, p)) [])
        (if-all P (holds_place s.proposed (i + 1)) (needed_instances (i + 1, p)) needed)
        (if-all P (holds_place s.initial (i + 1)) (kept_instances p.keep (i + 1, p)) (kept p.keep refl))

  of-request : All P (request_instances s.problem.request)
  of-request =
      let r = s.problem.request in
      let wanted = map (λ e. install_instance r e.0 e.1) (enumerate_from 1 r.install) in
      let unwanted = map (λ e. remove_instance r e.0 e.1) (enumerate_from 1 r.remove) in
      All-append P (wanted ++ unwanted) (flat_map (entry_instances r) (enumerate_from 1 r.upgrade))
      (All-append P wanted unwanted (made P (install_instance r) r.install each.install) (made P (remove_instance r) r.remove each.remove))
      (joined P (entry_instances r) (enumerate_from 1 r.upgrade) (numbered (λ e. All P (entry_instances r e)) 1 r.upgrade
      (λ j v is. All-map P (λ aspect. upgrade_instance r aspect (j + 1) v) (Unsatisfied ∷ Many ∷ Lower ∷ []) (λ k d inside. each.upgrade j v is _))))

  pub all-instances : All P (instances s)
  all-instances =
      let packages = flat_map (package_instances s) (enumerate_from 1 s.problem.packages) in
      All-append P (packages ++ request_instances s.problem.request) (map unknown_instance s.unknown)
      (All-append P packages (request_instances s.problem.request)
      (joined P (package_instances s) (enumerate_from 1 s.problem.packages) (numbered (λ p. All P (package_instances s p)) 1 s.problem.packages of-package)) of-request)
      each.unknown

  pub all-stops : All (OfStop P) (walk s)
  unfolding walk
  all-stops =
      All-append (OfStop P) (flat_map (package_stops s) (enumerate_from 1 s.problem.packages)) (map stop_at (request_instances s.problem.request ++ map unknown_instance s.unknown))
      (joined (OfStop P) (package_stops s) (enumerate_from 1 s.problem.packages) (numbered (λ p. All (OfStop P) (package_stops s p)) 1 s.problem.packages
      (λ i p is. All-append (OfStop P) (map stop_at (package_instances s (i + 1, p))) (package_end (i + 1) ∷ [])
      (All-map (OfStop P) stop_at (package_instances s (i + 1, p)) (of-package i p is)) (All-cons (OfStop P) (package_end (i + 1)) [] tt (All-nil (OfStop P))))))
      (All-map (OfStop P) stop_at (request_instances s.problem.request ++ map unknown_instance s.unknown)
      (All-append P (request_instances s.problem.request) (map unknown_instance s.unknown) of-request each.unknown))
