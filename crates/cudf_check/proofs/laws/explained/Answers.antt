use Rattle.std.proofs.Common.{◌++◌, None, codes, decimal, option_and_then, refl, ap, append-nil, true, false}
use Rattle.cudf_text.specs.Faults.{fault_text}
use Rattle.cudf_problem.specs.Universe.{package_at}
use Rattle.cudf_lrat.specs.Kinds.{kind_text}
use Rattle.cudf_referee.specs.Violations.{met_by}
use Rattle.cudf_check.specs.Explanations.{reason_added}
use Rattle.cudf_check.specs.JobStyles.{document_style, pair_style, refutation_style}
use Rattle.cudf_check.specs.Naming.{named_before, numbered}
use Rattle.cudf_check.specs.ProofDetails.{proof_added}
use Rattle.cudf_check.specs.Report.{line, met_text, met_texts}
use Rattle.cudf_check.specs.Styles.{of_problem}
use Rattle.cudf_check.proofs.laws.explained.Goals as goal

pub returns-clause-instances : goal.returns-clause-instances
returns-clause-instances c origins problem solution s i =
    let text = met_text (pair_style false origins problem solution) i (option_and_then (package_at s.problem) (met_by s.proposed i)) in
    record { text = text; added = (pair_style true origins problem solution).added_to_instance s i; plain_is = ap line (append-nil text); explained_is = refl }

pub returns-clause-faults : goal.returns-clause-faults
returns-clause-faults c origin bytes whose f = let text = named_before origin f.line ++ whose ++ numbered origin f.line ++ codes ": " ++ fault_text f.kind in record {
  text = text;
  added = (document_style true origin bytes).added_to_fault of_problem f;
  plain_is = ap line (append-nil text);
  explained_is = refl;
}

pub returns-clause-reasons : goal.returns-clause-reasons
returns-clause-reasons c bytes proof problem reason = let text = met_text (refutation_style false bytes proof) reason.0 None ++ met_texts problem reason.1 in record {
  text = text;
  added = reason_added true problem reason.0;
  plain_is = ap line (append-nil text);
  explained_is = refl;
}

pub returns-clause-proofs : goal.returns-clause-proofs
returns-clause-proofs c bytes proof clauses found number kind = let text = codes "proof line " ++ decimal number ++ codes ": " ++ kind_text kind in record {
  text = text;
  added = proof_added true proof clauses number kind;
  plain_is = ap line (append-nil text);
  explained_is = refl;
}
