-- What follows from the definitions alone: own.
use Rattle.std.specs.Prelude.{◌≡◌, false, List, map, All, IsTrue}
use Rattle.std.specs.List.Sorted.{IsPermutation}
use Rattle.cudf_job.specs.Keys.{PlainKey, never_descend}
use Rattle.cudf_reasons.specs.Reasons.{Keyed, PlainReason, brings, core_of, is_new, reasons_of, roots_of, told_of}

abbrev pub keys_of : List Keyed → List PlainKey
keys_of needed = map (λ n. n.0) needed

-- each instance of the needed CNF clauses is reported, and none of them twice
abbrev pub EachIsToldOnce : Type 0
EachIsToldOnce = (needed : List Keyed) → IsTrue (never_descend (keys_of needed)) → IsPermutation (core_of needed) (reasons_of needed)

abbrev pub IsTold : List PlainReason → PlainReason → Type 0
IsTold told reason = is_new told reason ≡ false

-- what is asked and what is kept is reported, and after it all that is brought in by what is reported
pub record GoesToTheEnd (core told : List PlainReason) : Type 0 where
  pub roots : All (IsTold told) (roots_of core)
  pub brought : All (λ reason. All (IsTold told) (brings core reason)) told

-- the steps of the walk are enough: it ends because nothing that waits is new
abbrev pub StepsAreEnough : Type 0
StepsAreEnough = (needed : List Keyed) → IsTrue (never_descend (keys_of needed)) → GoesToTheEnd (core_of needed) (told_of (core_of needed))
