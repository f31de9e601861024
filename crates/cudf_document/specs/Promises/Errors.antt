-- What is printed of the errors of this crate (own).
use Rattle.std.specs.Prelude.{ℕ, List, codes}
use Rattle.cudf_text.specs.Promises.Errors.{fault_line}
use Rattle.cudf_document.specs.declared.fault.ReadError.{ReadError}
use Rattle.cudf_document.specs.declared.fault.ReadError.TheVariants.{Fault, Memory}

-- `line 12: E13 no request`, or `out of memory`
abbrev pub error_text : ReadError → List ℕ
error_text (Fault f) = fault_line f
error_text (Memory e) = codes "out of memory"
