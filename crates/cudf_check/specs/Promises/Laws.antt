-- Laws of explained lines, over the definitions alone: own.
use Rattle.std.specs.Prelude.{◌≡◌, ℕ, true, false, List, ◌++◌, Option}
use Rattle.cudf_text.specs.declared.fault.Fault.{Fault}
use Rattle.cudf_problem.specs.Universe.{PlainProblem}
use Rattle.cudf_lrat.specs.Answers as lrat
use Rattle.cudf_lrat.specs.declared.checker.ProofFault.{ProofFault}
use Rattle.cudf_referee.specs.Instances.{PlainInstance}
use Rattle.cudf_referee.specs.Proposals.{Proposal}
use Rattle.cudf_check.specs.JobStyles.{document_style, pair_style, refutation_style}
use Rattle.cudf_check.specs.Naming.{PlainOrigin, PlainOrigins}
use Rattle.cudf_check.specs.Report.{line, faulty, instance_line, proof_report, reason_line}
use Rattle.cudf_check.specs.Styles.{of_problem}

-- the explained line is the plain one with something added after its text
pub record AddsAfter (plain explained : List ℕ) : Type 0 where
  pub text : List ℕ
  pub added : List ℕ
  pub plain_is : plain ≡ line text
  pub explained_is : explained ≡ line (text ++ added)

-- so are the lines of violated instances
abbrev pub AddsToInstances : Type 0
AddsToInstances = (origins : PlainOrigins) (problem solution : List ℕ) (s : Proposal) (i : PlainInstance)
    → AddsAfter (instance_line (pair_style false origins problem solution) s i) (instance_line (pair_style true origins problem solution) s i)

-- those of faults
abbrev pub AddsToFaults : Type 0
AddsToFaults = (origin : Option PlainOrigin) (bytes whose : List ℕ) (f : Fault)
    → AddsAfter (faulty (document_style false origin bytes) of_problem whose f).text (faulty (document_style true origin bytes) of_problem whose f).text

-- those of a refutation
abbrev pub AddsToReasons : Type 0
AddsToReasons = (bytes proof : List ℕ) (problem : PlainProblem) (reason : PlainInstance × List ℕ)
    → AddsAfter (reason_line (refutation_style false bytes proof) problem reason) (reason_line (refutation_style true bytes proof) problem reason)

-- and those of a proof's fault
abbrev pub AddsToProofs : Type 0
AddsToProofs = (bytes proof : List ℕ) (clauses : ℕ) (found : List ℕ → List ℕ) (number : ℕ) (kind : ProofFault)
    → AddsAfter (proof_report (refutation_style false bytes proof) clauses found (lrat.faulty number kind)).text (proof_report (refutation_style true bytes proof) clauses found (lrat.faulty number kind)).text
