-- What the initial status gives, as it is kept of the entries of `upgrade`: own.
use Rattle.std.specs.Prelude.{ℕ, List, Option}
use Rattle.std.specs.List.{AllZip}
use Rattle.cudf_value.specs.Vpkgs.{PlainVpkg}
use Rattle.cudf_index.specs.Promises.Members.{IsGreatest}
use Rattle.cudf_index.specs.Satisfaction.{Placed, numbers_of}

-- of each entry, the greatest number that a status gives of its name
abbrev pub AreGreatest : List Placed → List PlainVpkg → List (Option ℕ) → Type 0
AreGreatest status upgrade before = AllZip (λ v greatest. IsGreatest (numbers_of v.name status) greatest) upgrade before
