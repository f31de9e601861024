-- The kinds of faults: their texts (own).
use Rattle.std.specs.Prelude.{ℕ, List, codes}
use Rattle.cudf_lrat.specs.declared.checker.ProofFault.{ProofFault}
use Rattle.cudf_lrat.specs.declared.checker.ProofFault.TheVariants.{NotAStep, NumberNotNew, NoSuchVariable, RatStep, NoSuchClause, HintNotUnit, NoConflict, EndsEarly}

-- a kind's name and what is wrong
abbrev pub kind_text : ProofFault → List ℕ
kind_text NotAStep = codes "L1 not a step"
kind_text NumberNotNew = codes "L2 number is not new"
kind_text NoSuchVariable = codes "L3 no such variable"
kind_text RatStep = codes "L4 RAT is not accepted"
kind_text NoSuchClause = codes "L5 no such clause"
kind_text HintNotUnit = codes "L6 hint is not unit"
kind_text NoConflict = codes "L7 hints without conflict"
kind_text EndsEarly = codes "L8 proof ends early"
