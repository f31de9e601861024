-- What contracts see of what is said beside a proof's first fault.
use Rattle.std.specs.Prelude.{ℕ, List}
use Rattle.cudf_lrat.specs.Details.{detail_view}
use Rattle.cudf_check.specs.Explanations.{format_text}
use Rattle.cudf_check.specs.ProofDetails.{detail_text}
use Rattle.cudf_check.specs.declared.lines.reasons.ProofNote.{ProofNote}
use Rattle.cudf_check.specs.declared.lines.reasons.ProofNote.TheVariants.{OfFormat, OfLine}

abbrev pub said_text : ProofNote → List ℕ
said_text (OfFormat format) = format_text format
said_text (OfLine detail) = detail_text (detail_view detail)
