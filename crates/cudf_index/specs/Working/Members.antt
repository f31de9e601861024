-- How an index keeps the packages of a status (own).
use Rattle.std.specs.Prelude.{ℕ, Bool, true, not, ◌&&◌, ◌==◌, List, min, bytes_eq, Option, Some, None, if◌then◌else◌}
use Rattle.cudf_value.specs.declared.vpkg.Relop.{Relop}
use Rattle.cudf_value.specs.Vpkgs.{PlainVpkg, meets}
use Rattle.cudf_problem.specs.Promises.Views.{package_view}
use Rattle.cudf_index.specs.Satisfaction.{Placed, is_below_one}
use Rattle.cudf_index.specs.declared.index.member.Member.{Member}

-- a package of a status beside its place, as a plain pair
abbrev pub member_view : Member → Placed
member_view m = (m.place, package_view m.package.now)

-- what is given, one number or all, meets the bound
abbrev pub provision_meets : Option (Relop × ℕ) → Option (Relop × ℕ) → Bool
provision_meets bound None = not (is_below_one bound)
provision_meets bound (Some given) = meets bound given.1

-- an entry of a package's `provides` meets the vpkg
abbrev pub entry_meets : PlainVpkg → PlainVpkg → Bool
entry_meets v entry = bytes_eq entry.name v.name && provision_meets v.bound entry.bound

-- the place isn't the one that is named
abbrev pub is_other : Option ℕ → ℕ → Bool
is_other None place = true
is_other (Some named) place = not (place == named)

-- ---- the least number of a package

abbrev pub lesser : Option ℕ → ℕ → Option ℕ
lesser None n = Some n
lesser (Some m) n = Some (min m n)

abbrev pub lesser_if : Bool → Option ℕ → Option (Relop × ℕ) → Option ℕ
lesser_if same least None = least
lesser_if same least (Some given) = if same then lesser least given.1 else least

-- the lesser of the number, if there is one, and that which the entry gives of the name
abbrev pub lesser_of : List ℕ → Option ℕ → PlainVpkg → Option ℕ
lesser_of name least entry = lesser_if (bytes_eq entry.name name) least entry.bound
