-- The first fault of a document, as its readers give it.
use Rattle.std.specs.Prelude.{◌≡◌, List, Some}
use Rattle.cudf_text.specs.declared.fault.Fault.{Fault}
use Rattle.cudf_document.specs.declared.fault.ReadError.{ReadError}
use Rattle.cudf_document.specs.declared.fault.ReadError.TheVariants as error
use Rattle.cudf_document.specs.Faults.{least}

-- a document is refused for the least of its faults, or for want of memory
abbrev pub IsFirstFault : List Fault → ReadError → Type 0
IsFirstFault faults (error.Fault f) = least faults ≡ Some f
IsFirstFault faults (error.Memory e) = Unit {0}
