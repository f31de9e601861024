-- Where the instances of a problem are: own.
use Rattle.std.specs.Prelude.{◌≡◌, ◌<◌, ◌≤◌, ◌-◌, ℕ, length, Some, slice_get}
use Rattle.cudf_value.specs.Vpkgs.{PlainVpkg}
use Rattle.cudf_problem.specs.Universe.{PlainPackage, PlainProblem, package_id}
use Rattle.cudf_job.specs.declared.key.Part.TheVariants.{Package, Request}
use Rattle.cudf_referee.specs.Instances.{PlainWhat, install, remove, upgrade, unknown, PlainInstance}

-- it is of the package at its key's place
pub record IsOfPackage (problem : PlainProblem) (i : PlainInstance) : Type 0 where
  pub place : ℕ
  pub of : PlainPackage
  pub part : i.key.part ≡ Package place
  pub counted : 0 < place
  pub within : place ≤ length problem.packages
  pub is : slice_get problem.packages (place - 1) ≡ Some of
  pub subject : i.subject ≡ Some (package_id of)

-- it is of the entry of `upgrade` at its key's place
pub record IsOfEntry (problem : PlainProblem) (i : PlainInstance) (v : PlainVpkg) : Type 0 where
  pub part : i.key.part ≡ Request
  pub counted : 0 < i.key.place
  pub is : slice_get problem.request.upgrade (i.key.place - 1) ≡ Some v

-- by what it says
abbrev pub IsWhatWhere : PlainProblem → PlainInstance → PlainWhat → Type 0
IsWhatWhere problem i (install v) = i.key.part ≡ Request
IsWhatWhere problem i (remove v) = i.key.part ≡ Request
IsWhatWhere problem i (upgrade v) = IsOfEntry problem i v
IsWhatWhere problem i unknown = ⊥
IsWhatWhere problem i what = IsOfPackage problem i

abbrev pub IsWhere : PlainProblem → PlainInstance → Type 0
IsWhere problem i = IsWhatWhere problem i i.what
