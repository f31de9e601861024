-- How lines are told: what `--explain` and `--with-filename` change of them. Own.
use Rattle.std.specs.Prelude.{ℕ, List, [], ◌++◌, codes, decimal}
use Rattle.cudf_text.specs.declared.fault.Fault.{Fault}
use Rattle.cudf_problem.specs.Universe.{PlainProblem}
use Rattle.cudf_job.specs.declared.key.Part.{Part}
use Rattle.cudf_job.specs.declared.key.Part.TheVariants as part
use Rattle.cudf_lrat.specs.declared.checker.ProofFault.{ProofFault}
use Rattle.cudf_referee.specs.Instances.{PlainInstance}
use Rattle.cudf_referee.specs.Proposals.{Proposal}

-- what a line is about
pub data Document : Type 0 where
  of_problem : Document
  of_solution : Document
  -- the solution at a place, where several are ranked
  of_entrant : ℕ → Document

pub record Style : Type 0 where
  -- what is before a line about this line of the document, and what stands for ` line 3`
  pub prefix : Document → ℕ → List ℕ
  pub location : Document → ℕ → List ℕ
  -- what stands for the solution at a place in a line of a ranking, and what a fault of it is told of
  pub entrant : ℕ → List ℕ
  pub faulty_entrant : ℕ → List ℕ
  -- what is added to the line of the document's first fault, of a violated instance, of an instance of a refutation, and of
  -- a proof's first fault: by the number of the CNF's clauses, the line and the kind
  pub added_to_fault : Document → Fault → List ℕ
  pub added_to_instance : Proposal → PlainInstance → List ℕ
  pub added_to_reason : PlainProblem → PlainInstance → List ℕ
  pub added_to_proof : ℕ → ℕ → ProofFault → List ℕ

-- no line names a file or is explained
abbrev pub plainly : Style
plainly = record {
  prefix = λ document n. [];
  location = λ document n. codes " line " ++ decimal n;
  entrant = decimal;
  faulty_entrant = λ place. codes "solution " ++ decimal place;
  added_to_fault = λ document f. [];
  added_to_instance = λ s i. [];
  added_to_reason = λ problem i. [];
  added_to_proof = λ clauses n kind. [];
}

-- the document that an instance of this part is about
abbrev pub document_of : Part → Document
document_of part.Solution = of_solution
document_of _ = of_problem
