-- The instances of a package that are left, gone through.
use Rattle.std.proofs.Common.{◌≡◌, Bool, true, false, List, [], ◌++◌, cond, refl, ap, sym, ◌∙◌, append-nil}
use Rattle.cudf_value.specs.Formulas.{PlainAtom}
use Rattle.cudf_value.specs.Vpkgs.{PlainVpkg}
use Rattle.cudf_problem.specs.declared.package.Keep.{Keep}
use Rattle.cudf_problem.specs.declared.package.Keep.TheVariants.{Feature}
use Rattle.cudf_index.specs.Satisfaction.{Placed}
use Rattle.cudf_referee.specs.declared.left.Candidate.{Candidate}
use Rattle.cudf_referee.specs.Proposals.{Proposal}
use Rattle.cudf_referee.specs.Violations.{kept_instances, package_instances}
use Rattle.cudf_referee.specs.Working.RuleInstances.{depends_instance, conflicts_instance}
use Rattle.cudf_referee.specs.Working.PackageInstancesLeft.{placed_view, Fits, depends_of, conflicts_of, features_of, kept_features, numbered, kept_one, kept_feature}
use Rattle.cudf_referee.specs.Instances.{PlainInstance}

-- ---- a package

if-both : (b : Bool) (p : Placed) (xs : List (List PlainAtom)) (ys : List PlainVpkg)
    → cond b (numbered (depends_instance p) 0 xs ++ numbered (conflicts_instance p) 0 ys) [] ≡ numbered (depends_instance p) 0 (cond b xs []) ++ numbered (conflicts_instance p) 0 (cond b ys [])
if-both true p xs ys = refl
if-both false p xs ys = refl

-- what is kept once, and the features that are kept, are what is kept
end-left : (xs : List PlainInstance) (b : Bool) (k : Keep) (p : Placed)
    → xs ++ cond b (kept_one k p) [] ++ numbered (kept_feature p) 0 (cond b (kept_features k p.1.provides) []) ≡ xs ++ cond b (kept_instances k p) []
end-left xs true Feature p = ap (λ ys. ys ++ numbered (kept_feature p) 0 p.1.provides) (append-nil xs)
end-left xs true k p = append-nil (xs ++ kept_one k p)
end-left xs false k p = append-nil (xs ++ [])

-- what is left of a package that wasn't begun is all its instances
pub whole-left : (s : Proposal) (c : Candidate) → Fits s c → (xs : List (List PlainAtom)) (ys zs : List PlainVpkg) → xs ≡ depends_of c → ys ≡ conflicts_of c → zs ≡ features_of c
    → numbered (depends_instance (placed_view c)) 0 xs ++ numbered (conflicts_instance (placed_view c)) 0 ys ++ cond c.package.now.installed (kept_one c.package.now.keep (placed_view c)) []
    ++ numbered (kept_feature (placed_view c)) 0 zs ≡ package_instances s (placed_view c)
whole-left s c fits xs ys zs h h' h'' =
    (λ i. numbered (depends_instance p) 0 (h i) ++ numbered (conflicts_instance p) 0 (h' i) ++ cond c.package.now.installed (kept_one p.1.keep p) [] ++ numbered (kept_feature p) 0 (h'' i))
    ∙ end-left (numbered (depends_instance p) 0 (depends_of c) ++ numbered (conflicts_instance p) 0 (conflicts_of c)) c.package.now.installed p.1.keep p
    ∙ ap (λ xs. xs ++ cond c.package.now.installed (kept_instances p.1.keep p) []) (sym (if-both c.is_installed p p.1.depends p.1.conflicts))
    ∙ (λ i. cond (sym fits.is i) (numbered (depends_instance p) 0 p.1.depends ++ numbered (conflicts_instance p) 0 p.1.conflicts) [] ++ cond (sym fits.was i) (kept_instances p.1.keep p) [])
  where
    p : Placed
    p = placed_view c
