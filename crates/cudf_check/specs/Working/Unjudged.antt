-- What is answered where a document has a fault.
use Rattle.std.specs.Prelude.{◌≡◌, ℕ, true, List, Option, Some, None}
use Rattle.std.specs.Option.{option_map_or}
use Rattle.cudf_text.specs.declared.fault.Fault.{Fault}
use Rattle.cudf_text.specs.Joined.{is_fail}
use Rattle.cudf_document.specs.declared.fault.ReadError.{ReadError}
use Rattle.cudf_document.specs.declared.fault.ReadError.TheVariants as read_error
use Rattle.cudf_problem.specs.declared.problem.Mode.{Mode}
use Rattle.cudf_check.specs.Report.{faulty, solution_fault}
use Rattle.cudf_check.specs.Styles.{Document, Style}
use Rattle.cudf_device.specs.Outcomes.{Report}
use Rattle.cudf_check.specs.declared.readings.Unjudged.{Unjudged}
use Rattle.cudf_check.specs.declared.readings.Unjudged.TheVariants.{SaysFail, Unread}

-- the fault, if there is one, or else the report
abbrev pub faulty_or : Style → Document → List ℕ → Option Fault → Report → Report
faulty_or style document whose fault report = option_map_or (faulty style document whose) fault report

-- this is the fault, or memory was wanting
abbrev pub IsFaultOf : Option Fault → ReadError → Type 0
IsFaultOf fault (read_error.Fault f) = fault ≡ Some f
IsFaultOf fault (read_error.Memory e) = Unit {0}

-- a solution of a problem that declares these names isn't judged: it says FAIL, or has this fault, or memory was wanting
abbrev pub IsUnjudged : Mode → List (List ℕ) → List ℕ → Unjudged → Type 0
IsUnjudged mode names bytes SaysFail = (solution_fault mode names bytes ≡ None) × (is_fail bytes ≡ true)
IsUnjudged mode names bytes (Unread error) = IsFaultOf (solution_fault mode names bytes) error
