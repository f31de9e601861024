-- What the code's assignment is.
use Rattle.std.specs.Prelude.{ℕ, ◌<◌, Bool, false, ◌==◌, List, ◌++◌, slice_index_or, Result, Option, Some, None, if◌then◌else◌}
use Rattle.cudf_lrat.specs.Steps.{PartialAssignment, ClauseStatus, result_map, unit}
use Rattle.cudf_lrat.specs.declared.checker.ProofFault.{ProofFault}
use Rattle.cudf_lrat.specs.declared.cnf.Literal.{Literal}
use Rattle.cudf_lrat.specs.declared.assignment.AssignedValue.{AssignedValue}

abbrev pub unassigned : AssignedValue
unassigned = record { step = 0; value = false }

-- what another step assigned says nothing
abbrev pub value_of : AssignedValue → ℕ → Option Bool
value_of assigned step = if assigned.step == step then Some assigned.value else None

-- what a step assigned
unfoldable pub assigned_by : List AssignedValue → ℕ → PartialAssignment
assigned_by assignment step = λ variable. value_of (slice_index_or assignment variable unassigned) step

-- the hints that were used, and those that are used later
abbrev pub after_used : List ℕ → Result (List ℕ) ProofFault → Result (List ℕ) ProofFault
after_used front later = result_map (λ used. front ++ used) later

-- a unit's variable is below so many
abbrev pub IsInside : ℕ → ClauseStatus → Type 0
IsInside count (unit literal) = literal.variable < count
IsInside count _ = Unit {0}

abbrev pub no_literal : Literal
no_literal = record { variable = 0; positive = false }
