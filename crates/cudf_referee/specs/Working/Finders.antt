-- What is kept of the part in which an instance was sought last.
use Rattle.std.specs.Prelude.{◌≡◌, ◌-◌, ℕ, Option, Some, None, slice_get}
use Rattle.cudf_problem.specs.Universe.{PlainPackage, PlainProblem}
use Rattle.cudf_job.specs.declared.key.Key.{Key}
use Rattle.cudf_job.specs.KeyViews.{key_view}
use Rattle.cudf_referee.specs.declared.left.PackageInstancesLeft.{PackageInstancesLeft}
use Rattle.cudf_referee.specs.declared.left.RequestInstancesLeft.{RequestInstancesLeft}
use Rattle.cudf_referee.specs.Proposals.{everything}
use Rattle.cudf_referee.specs.Violations.{package_instances, request_instances}
use Rattle.cudf_referee.specs.Working.PackageInstancesLeft.{left_view}
use Rattle.cudf_referee.specs.Working.RequestInstancesLeft.{request_left_view}
use Rattle.cudf_referee.specs.Working.Sought.{after_key}

-- the instances of the package at this place that come after the key are left
abbrev pub IsPackageKept : PlainProblem → Option (ℕ × Key × PackageInstancesLeft) → Type 0
IsPackageKept problem None = Unit {0}
IsPackageKept problem (Some k) = (p : PlainPackage) → slice_get problem.packages (k.0 - 1) ≡ Some p
    → after_key (key_view k.1) (package_instances (everything problem) (k.0, p)) ≡ left_view (k.0, p) k.2

-- so are those of the request
abbrev pub IsRequestKept : PlainProblem → Option (Key × RequestInstancesLeft) → Type 0
IsRequestKept problem None = Unit {0}
IsRequestKept problem (Some k) = after_key (key_view k.0) (request_instances problem.request) ≡ request_left_view problem.request k.1
