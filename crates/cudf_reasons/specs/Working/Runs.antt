-- Where a package's reasons are among all, by key.
use Rattle.std.specs.Prelude.{ℕ, Bool, false, ◌&&◌, nat_lt}
use Rattle.cudf_job.specs.Keys.{PlainKey}
use Rattle.cudf_job.specs.declared.key.Part.{Part}
use Rattle.cudf_job.specs.declared.key.Part.TheVariants.{Package}
use Rattle.cudf_reasons.specs.Reasons.{is_depends_or_conflicts, is_of}

-- of a package before this place
abbrev pub comes_before : ℕ → Part → Bool
comes_before place (Package n) = nat_lt n place
comes_before place part = false

-- of depends or conflicts of the package at this place
abbrev pub is_brought : ℕ → PlainKey → Bool
is_brought place key = is_of place key.part && is_depends_or_conflicts key.rule
