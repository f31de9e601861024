-- The least and the greatest version, what a status doesn't hold, and what one package alone meets.
use Rattle.std.specs.Prelude.{◌≡◌, ◌≤◌, ℕ, Bool, not, List, [], All, Contains, Option, Some, None, IsNone, IfSome, ◌↔◌}
use Rattle.std.specs.List.{list_any}
use Rattle.cudf_value.specs.Vpkgs.{PlainVpkg}
use Rattle.cudf_problem.specs.Universe.{PlainPackage}
use Rattle.cudf_index.specs.Satisfaction.{Placed, members, without, satisfies, meets_alone}

-- the least of the numbers: none where there are no numbers, else one of them that is at most each
pub record IsLeast (numbers : List ℕ) (least : Option ℕ) : Type 0 where
  pub none : IsNone least ↔ (numbers ≡ [])
  pub among : IfSome least (Contains numbers)
  pub bound : IfSome least (λ n. All (λ m. n ≤ m) numbers)

-- the greatest of the numbers: none where there are no numbers, else one of them that is at least each
pub record IsGreatest (numbers : List ℕ) (greatest : Option ℕ) : Type 0 where
  pub none : IsNone greatest ↔ (numbers ≡ [])
  pub among : IfSome greatest (Contains numbers)
  pub bound : IfSome greatest (λ n. All (λ m. m ≤ n) numbers)

-- the packages of a universe that a status doesn't hold, in the order of their places
abbrev pub outside : (ℕ → Bool) → List PlainPackage → List Placed
outside holds packages = members (λ place. not (holds place)) packages

-- a status less the package at a place, if one is named
abbrev pub other_than : Option ℕ → List Placed → List Placed
other_than None status = status
other_than (Some place) status = without place status

-- a status satisfies a vpkg where one of its packages alone does
abbrev pub MemberAlone : Type 0
MemberAlone = (status : List Placed) (v : PlainVpkg) → satisfies status v ≡ list_any (meets_alone v) status
