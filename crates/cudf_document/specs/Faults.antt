-- The first of several faults (own).
use Rattle.std.specs.Prelude.{ℕ, Bool, List, [], ◌∷◌, Option, Some, None, if◌then◌else◌}
use Rattle.cudf_text.specs.declared.fault.Fault.{Fault}
use Rattle.cudf_text.specs.declared.fault.Kind.{Kind}
use Rattle.cudf_text.specs.Faults.{precedes}

-- the one that precedes the other
abbrev pub lesser : Option Fault → Option Fault → Option Fault
lesser None g = g
lesser (Some f) None = Some f
lesser (Some f) (Some g) = Some (if precedes g f then g else f)

-- the fault that precedes all others
abbrev pub least : List Fault → Option Fault
least [] = None
least (f ∷ fs) = lesser (Some f) (least fs)

-- a fault of this kind on this line, where the test says so
abbrev pub fault_if : Bool → ℕ → Kind → List Fault
fault_if test n kind = if test then record { line = n; kind = kind } ∷ [] else []
