-- What a finder keeps of the part in which it sought last, and what it finds there.
use Rattle.std.proofs.Common.{◌≡◌, ℕ, ◌-◌, ◌<◌, Option, Some, arith, sym, ◌∙◌, subst}
use Rattle.std.specs.Prelude.{find, slice_get}
use Rattle.cudf_problem.specs.Promises.Views.{package_view}
use Rattle.cudf_problem.specs.Universe.{PlainPackage, PlainProblem}
use Rattle.cudf_index.specs.Satisfaction.{Placed}
use Rattle.cudf_job.specs.declared.key.Key.{Key}
use Rattle.cudf_job.specs.declared.key.Part.TheVariants as part
use Rattle.cudf_job.specs.Keys.{PlainKey}
use Rattle.cudf_job.specs.KeyViews.{key_view}
use Rattle.cudf_referee.specs.declared.left.Candidate.{Candidate}
use Rattle.cudf_referee.specs.declared.left.PackageInstancesLeft.{PackageInstancesLeft}
use Rattle.cudf_referee.specs.declared.left.RequestInstancesLeft.{RequestInstancesLeft}
use Rattle.cudf_referee.specs.Proposals.{everything}
use Rattle.cudf_referee.specs.Violations.{package_instances, request_instances, instance_of}
use Rattle.cudf_referee.specs.Working.Finders.{IsPackageKept, IsRequestKept}
use Rattle.cudf_referee.specs.Working.PackageInstancesLeft.{placed_view, left_view}
use Rattle.cudf_referee.specs.Working.ProblemLeft.{IsPlacedAt}
use Rattle.cudf_referee.specs.Working.RequestInstancesLeft.{request_left_view}
use Rattle.cudf_referee.specs.Working.Sought.{has_key, after_key}
use Rattle.cudf_referee.proofs.FoundLemmas.{of-package}

module _ (was now : PlainProblem) (same : was ≡ now) where
  pub kept-request : (kept : Option (Key × RequestInstancesLeft)) (last : Key) (left : RequestInstancesLeft) → IsRequestKept was kept → kept ≡ Some (last, left)
      → after_key (key_view last) (request_instances now.request) ≡ request_left_view now.request left
  kept-request kept last left is some =
      subst (λ (q : PlainProblem). IsRequestKept q (Some (last, left))) same (subst (λ (k : Option (Key × RequestInstancesLeft)). IsRequestKept was k) some is)

  pub kept-package : (kept : Option (ℕ × Key × PackageInstancesLeft)) (place : ℕ) (last : Key) (left : PackageInstancesLeft) (c : Candidate) → IsPackageKept was kept → kept ≡ Some (place, last, left)
      → place ≡ c.place → IsPlacedAt now (c.place - 1) c → after_key (key_view last) (package_instances (everything now) (placed_view c)) ≡ left_view (placed_view c) left
  kept-package kept place last left c is some number at =
      let there : IsPackageKept now (Some (place, last, left)) =
      subst (λ (q : PlainProblem). IsPackageKept q (Some (place, last, left))) same (subst (λ (k : Option (ℕ × Key × PackageInstancesLeft)). IsPackageKept was k) some is) in
      subst (λ (n : ℕ). after_key (key_view last) (package_instances (everything now) (n, package_view c.package.now)) ≡ left_view (n, package_view c.package.now) left) number
      (there (package_view c.package.now) (subst (λ (n : ℕ). slice_get now.packages (n - 1) ≡ Some (package_view c.package.now)) (sym number) at.is))

  module _ (place : ℕ) (c : Candidate) (counted : 0 < place) (at : IsPlacedAt was (place - 1) c) where
    number : c.place ≡ place
    number = omega (arith, at.place)

    -- what is left of the package after a key, to keep
    pub package-left : (key : PlainKey) (left : PackageInstancesLeft) → after_key key (package_instances (everything now) (placed_view c)) ≡ left_view (placed_view c) left
        → (p : PlainPackage) → slice_get was.packages (place - 1) ≡ Some p → after_key key (package_instances (everything was) (place, p)) ≡ left_view (place, p) left
    package-left key left is p there =
        let one : Some (package_view c.package.now) ≡ Some p = sym at.is ∙ there in
        let it : package_view c.package.now ≡ p = cc one in
        subst (λ (q : PlainProblem). after_key key (package_instances (everything q) (place, p)) ≡ left_view (place, p) left) (sym same)
        (subst (λ (e : Placed). after_key key (package_instances (everything now) e) ≡ left_view e left) (λ i. (number i, it i)) is)

    -- the one of the key
    pub package-found : (key : PlainKey) → key.part ≡ part.Package place → find (has_key key) (package_instances (everything now) (placed_view c)) ≡ instance_of now key
    package-found key of =
        (λ i. find (has_key key) (package_instances (everything now) (number i, package_view c.package.now)))
        ∙ sym (of-package key now place (place - 1) (package_view c.package.now) of (omega (arith, counted))
        (subst (λ (q : PlainProblem). slice_get q.packages (place - 1) ≡ Some (package_view c.package.now)) same at.is))
