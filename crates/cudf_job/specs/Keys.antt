-- Keys of violated instances, their order and their texts: own.
use Rattle.std.specs.Prelude.{ℕ, Bool, true, false, ◌&&◌, nat_lt, List, [], ◌∷◌, ◌++◌, codes, decimal, Option, Some, None}
use Rattle.std.specs.Cmp.Lexicographic.{slice_cmp}
use Rattle.std.specs.List.{list_all}
use Rattle.std.specs.Ordering.{nat_cmp, is_le, is_lt}
use Rattle.std.specs.declared.cmp.Ordering.{Ordering}
use Rattle.cudf_job.specs.declared.key.Part.{Part}
use Rattle.cudf_job.specs.declared.key.Part.TheVariants.{Package, Request, Solution}
use Rattle.cudf_job.specs.declared.key.Rule.{Rule}
use Rattle.cudf_job.specs.declared.key.Rule.TheVariants.{Depends, Conflicts, Keep, Install, Remove, Upgrade, Unknown}
use Rattle.cudf_job.specs.declared.key.Aspect.{Aspect}
use Rattle.cudf_job.specs.declared.key.Aspect.TheVariants.{Unsatisfied, Many, Lower}

-- a key by its parts
pub record PlainKey : Type 0 where
  pub part : Part
  pub rule : Rule
  pub place : ℕ
  pub aspect : Option Aspect

-- the key of these parts
abbrev pub key_of : Part → Rule → ℕ → Option Aspect → PlainKey
key_of part rule place aspect = record { part = part; rule = rule; place = place; aspect = aspect }

-- ---- which parts fit each other

-- a package's number is from 1, and upgrade alone has an aspect
abbrev pub fits : Part → Rule → Option Aspect → Bool
fits (Package n) Depends None = nat_lt 0 n
fits (Package n) Conflicts None = nat_lt 0 n
fits (Package n) Keep None = nat_lt 0 n
fits Request Install None = true
fits Request Remove None = true
fits Request Upgrade (Some aspect) = true
fits Solution Unknown None = true
fits part rule aspect = false

-- places are from 1
abbrev pub is_key : Part → Rule → ℕ → Option Aspect → Bool
is_key part rule place aspect = fits part rule aspect && nat_lt 0 place

-- ---- order and texts of the pieces

-- each part's rank in the order of keys, and its text
abbrev pub part_row : Part → ℕ × List ℕ
part_row (Package n) = (1, codes "p" ++ decimal n)
part_row Request = (2, codes "r")
part_row Solution = (3, codes "s")

-- each rule's
abbrev pub rule_row : Rule → ℕ × List ℕ
rule_row Depends = (1, codes "depends")
rule_row Conflicts = (2, codes "conflicts")
rule_row Keep = (3, codes "keep")
rule_row Install = (4, codes "install")
rule_row Remove = (5, codes "remove")
rule_row Upgrade = (6, codes "upgrade")
rule_row Unknown = (7, codes "unknown")

-- each aspect's, where its text has the point before it
abbrev pub aspect_row : Option Aspect → ℕ × List ℕ
aspect_row None = (0, [])
aspect_row (Some Unsatisfied) = (1, codes ".unsatisfied")
aspect_row (Some Many) = (2, codes ".many")
aspect_row (Some Lower) = (3, codes ".lower")

-- ---- order

-- the place of a package
abbrev pub part_place : Part → ℕ
part_place (Package n) = n
part_place _ = 0

-- packages by place, the request, the solution; then the rule; then the place; then the aspect
abbrev pub key_ranks : PlainKey → List ℕ
key_ranks key = (part_row key.part).0 ∷ part_place key.part ∷ (rule_row key.rule).0 ∷ key.place ∷ (aspect_row key.aspect).0 ∷ []

-- the first of these that differ tell which key comes first
abbrev pub key_cmp : PlainKey → PlainKey → Ordering
key_cmp a b = slice_cmp nat_cmp (key_ranks a) (key_ranks b)

-- each key comes before all later ones
abbrev pub ascend : List PlainKey → Bool
ascend [] = true
ascend (key ∷ keys) = list_all (λ later. is_lt (key_cmp key later)) keys && ascend keys

-- no key comes before an earlier one
abbrev pub never_descend : List PlainKey → Bool
never_descend [] = true
never_descend (key ∷ keys) = list_all (λ later. is_le (key_cmp key later)) keys && never_descend keys

-- ---- texts

-- a key, as `p1.depends.2` or `r.upgrade.1.many`
abbrev pub key_text : PlainKey → List ℕ
key_text key = (part_row key.part).1 ++ codes "." ++ (rule_row key.rule).1 ++ codes "." ++ decimal key.place ++ (aspect_row key.aspect).1
