-- The instances of each rule by its entry's number, as the code and the lemmas name them.
use Rattle.std.specs.Prelude.{ℕ, List, Some, None}
use Rattle.cudf_value.specs.Formulas.{PlainAtom}
use Rattle.cudf_value.specs.Vpkgs.{PlainVpkg}
use Rattle.cudf_problem.specs.Universe.{PlainRequest}
use Rattle.cudf_index.specs.Satisfaction.{Placed}
use Rattle.cudf_job.specs.declared.key.Aspect.{Aspect}
use Rattle.cudf_job.specs.declared.key.Rule.TheVariants as rule
use Rattle.cudf_referee.specs.Instances.{PlainWhat, needs, conflicts_with, install, remove, upgrade, PlainInstance}
use Rattle.cudf_referee.specs.Violations.{at_package, at_request}

-- depends: of a conjunct, by its number from 1
abbrev pub depends_instance : Placed → ℕ → List PlainAtom → PlainInstance
depends_instance p number clause = at_package p rule.Depends number (needs clause)

-- conflicts: of an entry
abbrev pub conflicts_instance : Placed → ℕ → PlainVpkg → PlainInstance
conflicts_instance p number v = at_package p rule.Conflicts number (conflicts_with v)

-- keep: of the package, of its name, or of an entry of its `provides`
abbrev pub keep_instance : Placed → ℕ → PlainWhat → PlainInstance
keep_instance p number what = at_package p rule.Keep number what

-- install, remove, upgrade: of an entry
abbrev pub install_instance : PlainRequest → ℕ → PlainVpkg → PlainInstance
install_instance r number v = at_request r rule.Install number None (install v)

abbrev pub remove_instance : PlainRequest → ℕ → PlainVpkg → PlainInstance
remove_instance r number v = at_request r rule.Remove number None (remove v)

abbrev pub upgrade_instance : PlainRequest → Aspect → ℕ → PlainVpkg → PlainInstance
upgrade_instance r aspect number v = at_request r rule.Upgrade number (Some aspect) (upgrade v)
