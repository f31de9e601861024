-- The instances of a package that is judged, as the code goes through them.
use Rattle.std.specs.Prelude.{◌≡◌, ℕ, ◌+◌, List, [], ◌∷◌, ◌++◌, Option, Some, None, map, if◌then◌else◌}
use Rattle.std.specs.List.{enumerate_from}
use Rattle.cudf_value.specs.Formulas.{PlainAtom}
use Rattle.cudf_value.specs.Vpkgs.{PlainVpkg}
use Rattle.cudf_value.specs.Promises.Views.{formula_view, list_view, clauses_view, vpkgs_view}
use Rattle.cudf_problem.specs.declared.package.Keep.{Keep}
use Rattle.cudf_problem.specs.declared.package.Keep.TheVariants.{Version, Package, Feature}
use Rattle.cudf_problem.specs.Promises.Views.{package_view}
use Rattle.cudf_index.specs.Satisfaction.{Placed}
use Rattle.cudf_referee.specs.declared.left.Candidate.{Candidate}
use Rattle.cudf_referee.specs.declared.left.PackageInstancesLeft.{PackageInstancesLeft}
use Rattle.cudf_referee.specs.Proposals.{Proposal, holds_place}
use Rattle.cudf_referee.specs.Instances.{keep_version, keep_package, keep_feature, PlainInstance}
use Rattle.cudf_referee.specs.Violations.{package_instances}
use Rattle.cudf_referee.specs.Working.RuleInstances.{depends_instance, conflicts_instance, keep_instance}

-- ---- a package that is judged

-- the package with its place
abbrev pub placed_view : Candidate → Placed
placed_view c = (c.place, package_view c.package.now)

-- the proposal says the same of the package
pub record Fits (s : Proposal) (c : Candidate) : Type 0 where
  pub was : holds_place s.initial c.place ≡ c.package.now.installed
  pub is : holds_place s.proposed c.place ≡ c.is_installed

-- what is judged of it
abbrev pub depends_of : Candidate → List (List PlainAtom)
depends_of c = if c.is_installed then formula_view c.package.now.depends else []

abbrev pub conflicts_of : Candidate → List PlainVpkg
conflicts_of c = if c.is_installed then list_view c.package.now.conflicts else []

abbrev pub kept_features : Keep → List PlainVpkg → List PlainVpkg
kept_features Feature vs = vs
kept_features keep vs = []

abbrev pub features_of : Candidate → List PlainVpkg
features_of c = if c.package.now.installed then kept_features c.package.now.keep (list_view c.package.now.provides) else []

-- one of each entry, by its number, after so many
abbrev pub numbered : {A : Type 0} → (ℕ → A → PlainInstance) → ℕ → List A → List PlainInstance
numbered make n entries = map (λ e. make e.0 e.1) (enumerate_from (n + 1) entries)

-- ---- those that are left

abbrev pub kept_one : Keep → Placed → List PlainInstance
kept_one Version p = keep_instance p 1 keep_version ∷ []
kept_one Package p = keep_instance p 1 keep_package ∷ []
kept_one keep p = []

-- a feature that is to be kept
abbrev pub kept_feature : Placed → ℕ → PlainVpkg → PlainInstance
kept_feature p number v = keep_instance p number (keep_feature v)

abbrev pub left_view : Placed → PackageInstancesLeft → List PlainInstance
left_view p l = numbered (depends_instance p) l.clause (clauses_view l.clauses) ++ numbered (conflicts_instance p) l.conflict (vpkgs_view l.conflicts)
    ++ (if l.one then kept_one p.1.keep p else []) ++ numbered (kept_feature p) l.feature (vpkgs_view l.features)

-- all of the package, where it wasn't begun
abbrev pub left_in : Proposal → Option PackageInstancesLeft → Placed → List PlainInstance
left_in s None p = package_instances s p
left_in s (Some left) p = left_view p left
