-- What is printed of the errors of this crate (own).
use Rattle.std.specs.Prelude.{ℕ, List, ◌++◌, codes, decimal}
use Rattle.cudf_text.specs.declared.fault.Fault as fault
use Rattle.cudf_text.specs.declared.text.TextError.{TextError}
use Rattle.cudf_text.specs.declared.text.TextError.TheVariants.{Fault, Memory}
use Rattle.cudf_text.specs.Faults.{fault_text}

-- a fault with its line, as `line 3: E9 value is not of its type`
abbrev pub fault_line : fault.Fault → List ℕ
fault_line f = codes "line " ++ decimal f.line ++ codes ": " ++ fault_text f.kind

-- `line 2: E1 not UTF-8`, or `out of memory`
abbrev pub error_text : TextError → List ℕ
error_text (Fault f) = fault_line f
error_text (Memory e) = codes "out of memory"
