-- What is added to the line of a proof's first fault, where lines are explained: own.
use Rattle.std.specs.Prelude.{ℕ, Bool, List, [], ◌++◌, codes, decimal, Option, Some, None, option_map, if◌then◌else◌}
use Rattle.std.specs.Option.{option_or}
use Rattle.cudf_document.specs.Details.{format_of}
use Rattle.cudf_lrat.specs.Details.{PlainDetail, binary, no_hints, line_text, clause_count, fault_detail}
use Rattle.cudf_lrat.specs.declared.checker.ProofFault.{ProofFault}
use Rattle.cudf_check.specs.Explanations.{format_text}
use Rattle.cudf_check.specs.Shown.{clipped}

abbrev pub detail_text : PlainDetail → List ℕ
detail_text binary = codes "it is a binary proof"
detail_text no_hints = codes "a step has a number and hints"
detail_text (line_text text) = codes "it is " ++ clipped text
detail_text (clause_count n) = codes "the CNF has " ++ decimal n ++ codes " clauses"

-- what is said of a proof that begins as a file of a format does: this alone; and else of its fault
abbrev pub proof_text : List ℕ → Option PlainDetail → Option (List ℕ)
proof_text proof detail = option_or (option_map format_text (format_of proof)) (option_map detail_text detail)

-- `; it is a gzip file`, where something is said
abbrev pub text_added : Option (List ℕ) → List ℕ
text_added None = []
text_added (Some text) = codes "; " ++ text

-- of a CNF with so many clauses, beside the fault of this kind on a line of the proof
unfoldable pub proof_explained : List ℕ → ℕ → ℕ → ProofFault → List ℕ
proof_explained proof clauses number kind = text_added (proof_text proof (fault_detail clauses proof number kind))

abbrev pub proof_added : Bool → List ℕ → ℕ → ℕ → ProofFault → List ℕ
proof_added explain proof clauses number kind = if explain then proof_explained proof clauses number kind else []
