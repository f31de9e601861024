-- The instances of the request, as the code goes through them.
use Rattle.std.specs.Prelude.{ℕ, ◌+◌, List, [], ◌∷◌, ◌++◌, Option, Some, None}
use Rattle.std.specs.List.{flat_map, enumerate_from}
use Rattle.cudf_value.specs.declared.vpkg.Vpkg.{Vpkg}
use Rattle.cudf_value.specs.Vpkgs.{PlainVpkg}
use Rattle.cudf_value.specs.Promises.Views.{vpkg_view, vpkgs_view}
use Rattle.cudf_problem.specs.Universe.{PlainRequest}
use Rattle.cudf_job.specs.declared.key.Aspect.{Aspect}
use Rattle.cudf_job.specs.declared.key.Aspect.TheVariants.{Unsatisfied, Many, Lower}
use Rattle.cudf_referee.specs.declared.left.RequestInstancesLeft.{RequestInstancesLeft}
use Rattle.cudf_referee.specs.Instances.{PlainInstance}
use Rattle.cudf_referee.specs.Violations.{entry_instances}
use Rattle.cudf_referee.specs.Working.RuleInstances.{install_instance, remove_instance, upgrade_instance}
use Rattle.cudf_referee.specs.Working.PackageInstancesLeft.{numbered}

-- the aspects of an entry after one of them
abbrev pub later : Vpkg → Aspect → Option (Vpkg × Aspect)
later v Unsatisfied = Some (v, Many)
later v Many = Some (v, Lower)
later v Lower = None

-- those from one of them on
abbrev pub aspects_from : PlainRequest → ℕ → PlainVpkg → Aspect → List PlainInstance
aspects_from r n v Unsatisfied = entry_instances r (n, v)
aspects_from r n v Many = upgrade_instance r Many n v ∷ upgrade_instance r Lower n v ∷ []
aspects_from r n v Lower = upgrade_instance r Lower n v ∷ []

abbrev pub aspects_left : PlainRequest → ℕ → Option (Vpkg × Aspect) → List PlainInstance
aspects_left r n None = []
aspects_left r n (Some e) = aspects_from r n (vpkg_view e.0) e.1

-- ---- those that are left

abbrev pub upgrades_view : PlainRequest → RequestInstancesLeft → List PlainInstance
upgrades_view r s = aspects_left r s.upgraded s.entry ++ flat_map (entry_instances r) (enumerate_from (s.upgraded + 1) (vpkgs_view s.upgrade))

abbrev pub request_left_view : PlainRequest → RequestInstancesLeft → List PlainInstance
request_left_view r s = numbered (install_instance r) s.installed (vpkgs_view s.install) ++ numbered (remove_instance r) s.removed (vpkgs_view s.remove) ++ upgrades_view r s
