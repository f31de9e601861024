-- The code's answers, as the definitions have them.
use Rattle.std.specs.Prelude.{List}
use Rattle.cudf_lrat.specs.Answers as answers
use Rattle.cudf_lrat.specs.Lines as lines
use Rattle.cudf_lrat.specs.Steps as steps
use Rattle.cudf_lrat.specs.Steps.{Derived}
use Rattle.cudf_lrat.specs.declared.checker.ProofState.{ProofState}
use Rattle.cudf_lrat.specs.declared.checker.ProofState.TheVariants.{On, Refuted, Fault}
use Rattle.cudf_lrat.specs.declared.assignment.ClauseStatus.{ClauseStatus}
use Rattle.cudf_lrat.specs.declared.assignment.ClauseStatus.TheVariants.{Conflict, Unit, NotUnit}
use Rattle.cudf_lrat.specs.declared.reader.SignedNumber.{SignedNumber}
use Rattle.cudf_lrat.specs.declared.reader.ProofLine.{ProofLine}
use Rattle.cudf_lrat.specs.declared.reader.ProofLine.TheVariants.{Skipped, Step, Invalid}

-- with the literals and the hints of a step
abbrev pub line_view : ProofLine → List SignedNumber → List SignedNumber → lines.ProofLine
line_view Skipped literals hints = lines.skipped
line_view (Step number) literals hints = lines.step number literals hints
line_view Invalid literals hints = lines.invalid

abbrev pub status_view : ClauseStatus → steps.ClauseStatus
status_view Conflict = steps.conflict
status_view (Unit literal) = steps.unit literal
status_view NotUnit = steps.not_unit

-- with the steps after it
abbrev pub taken_view : ProofState → List Derived → answers.ProofState
taken_view On taken = answers.on taken
taken_view Refuted taken = answers.done taken
taken_view (Fault kind) taken = answers.fault kind
