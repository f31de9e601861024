-- What contracts see of instances, wherever they lie in memory: own.
use Rattle.std.specs.Prelude.{option_map}
use Rattle.cudf_value.specs.Promises.Views.{vpkg_view, clause_view}
use Rattle.cudf_referee.specs.declared.instance.Instance.{Instance}
use Rattle.cudf_referee.specs.declared.instance.Requirement.{Requirement}
use Rattle.cudf_referee.specs.declared.instance.Requirement.TheVariants.{Needs, ConflictsWith, KeepVersion, KeepPackage, KeepFeature, Install, Remove, Upgrade, Unknown}
use Rattle.cudf_job.specs.KeyViews.{key_view}
use Rattle.cudf_referee.specs.Instances.{PlainWhat, needs, conflicts_with, keep_version, keep_package, keep_feature, install, remove, upgrade, unknown, PlainInstance}

abbrev pub what_view : Requirement → PlainWhat
what_view (Needs clause) = needs (clause_view clause)
what_view (ConflictsWith v) = conflicts_with (vpkg_view v)
what_view KeepVersion = keep_version
what_view KeepPackage = keep_package
what_view (KeepFeature v) = keep_feature (vpkg_view v)
what_view (Install v) = install (vpkg_view v)
what_view (Remove v) = remove (vpkg_view v)
what_view (Upgrade v) = upgrade (vpkg_view v)
what_view Unknown = unknown

abbrev pub instance_view : Instance → PlainInstance
instance_view i = record {
  key = key_view i.key;
  line = i.line;
  subject = option_map (λ s. (s.0.now, s.1)) i.subject;
  what = what_view i.what;
}
