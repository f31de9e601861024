-- Of which packages the name alone is to be kept, and is proposed.
use Rattle.std.specs.Prelude.{ℕ, Bool, true, false, ◌&&◌, List, map}
use Rattle.cudf_problem.specs.declared.package.Keep.{Keep}
use Rattle.cudf_problem.specs.declared.package.Keep.TheVariants.{Package}
use Rattle.cudf_problem.specs.Universe.{PlainPackage, PlainProblem}
use Rattle.cudf_index.specs.Satisfaction.{Placed, members}
use Rattle.cudf_referee.specs.Violations.{has_package}

-- `keep: package`
abbrev pub keeps_name : Keep → Bool
keeps_name Package = true
keeps_name keep = false

-- the name of the package is to be kept, and the status has it
abbrev pub has_kept_name : List Placed → PlainPackage → Bool
has_kept_name status p = keeps_name p.keep && has_package status p.name

-- one flag a package of the universe
abbrev pub names_held : PlainProblem → (ℕ → Bool) → List Bool
names_held problem is_installed = map (has_kept_name (members is_installed problem.packages)) problem.packages
