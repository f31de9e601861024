-- The lines that are read and the first fault among them, line by line.
use Rattle.std.specs.Prelude.{Bool, true, false, List, [], ◌∷◌, if◌then◌else◌, is_none, Option, Some, None}
use Rattle.std.specs.Option.{option_or}
use Rattle.cudf_text.specs.declared.fault.Fault.{Fault}
use Rattle.cudf_text.specs.declared.fault.Kind.TheVariants.{E2, E3}
use Rattle.cudf_text.specs.Lines.{Class, continuation, named, faulty, NumberedLine}

-- a continuation may directly follow a line of this class
abbrev pub is_open : Class → Bool
is_open (continuation text) = true
is_open (named name text) = true
is_open _ = false

-- what is wrong with a line that follows one of this class: E2 a faulty line, E3 a continuation of nothing
abbrev pub line_fault : Class → NumberedLine → Option Fault
line_fault before (n, faulty) = Some (record { line = n; kind = E2 })
line_fault before (n, continuation text) = if is_open before then None else Some (record { line = n; kind = E3 })
line_fault before (n, _) = None

-- these lines down to that of the first fault
abbrev pub read_after : Class → List NumberedLine → List NumberedLine
read_after before [] = []
read_after before ((n, c) ∷ ls) = (n, c) ∷ (if is_none (line_fault before (n, c)) then read_after c ls else [])

-- the first fault: that of the first line, or else that of those after it
abbrev pub fault_after : Class → List NumberedLine → Option Fault
fault_after before [] = None
fault_after before ((n, c) ∷ ls) = option_or (line_fault before (n, c)) (fault_after c ls)
