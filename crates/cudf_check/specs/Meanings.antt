-- What `cnf` and `refute` have written, by its meaning. Own.
use Rattle.std.specs.Prelude.{◌≡◌, ◌+◌, ℕ, Bool, true, List, [], ◌++◌, length, Contains, codes}
use Rattle.std.specs.List.{flat_map, list_all}
use Rattle.std.specs.declared.cmp.Ordering.TheVariants.{Less}
use Rattle.cudf_text.specs.Stanzas.{plain_text}
use Rattle.cudf_problem.specs.Statuses.{PlainUnknown}
use Rattle.cudf_problem.specs.Universe.{PlainProblem, plain_problem}
use Rattle.cudf_job.specs.Comparing.{compare}
use Rattle.cudf_job.specs.declared.criteria.Aim.{Aim}
use Rattle.cudf_job.specs.declared.job.Job.{Job}
use Rattle.cudf_job.specs.declared.job.Job.TheVariants.{Cnf, CnfBetter, Refute, RefuteBetter}
use Rattle.cudf_lrat.specs.Literals.{PlainCnf, is_satisfied_by}
use Rattle.cudf_lrat.specs.declared.cnf.Literal.{Literal}
use Rattle.cudf_referee.specs.Criteria.{criteria}
use Rattle.cudf_referee.specs.Instances.{PlainInstance}
use Rattle.cudf_referee.specs.Proposals.{Proposal}
use Rattle.cudf_referee.specs.Solutions.{is_solution}
use Rattle.cudf_referee.specs.Violations.{listing}
use Rattle.cudf_cnf.specs.Laws.{proposed}
use Rattle.cudf_better.specs.Laws.{Satisfied}
use Rattle.cudf_device.specs.Readers.{OfOne}
use Rattle.cudf_check.specs.JobStyles.{input_at, style_of}
use Rattle.cudf_check.specs.Naming.{unnamed}
use Rattle.cudf_check.specs.Report.{dimacs, line, proposal_of, reason_line}
use Rattle.cudf_check.specs.Styles.{Style}

-- the text is clauses in DIMACS that exactly the solutions satisfy: the variable of a package's place is whether it is installed
pub record Encodes (problem : PlainProblem) (text : List ℕ) : Type 0 where
  pub clauses : List (List Literal)
  pub printed : text ≡ dimacs problem.packages (record { variables = length problem.packages; clauses = clauses })
  pub models : (is_installed : ℕ → Bool) → list_all (is_satisfied_by is_installed) clauses ≡ is_solution (proposed problem is_installed [])

-- the text is the lines of instances of which each proposed status violates one, so none is a solution
pub record Refutes (style : Style) (problem : PlainProblem) (text : List ℕ) : Type 0 where
  pub reasons : List (PlainInstance × List ℕ)
  pub lines : text ≡ flat_map (reason_line style problem) reasons ++ line (codes "no solution exists")
  pub violated : (is_installed : ℕ → Bool) (unknown : List PlainUnknown) → OfOne (λ reason. Contains (listing (proposed problem is_installed unknown)) reason.0) reasons

-- the second is a solution that compares better than the first
abbrev pub IsBetter : List Aim → Proposal → Proposal → Type 0
IsBetter aims s t = (is_solution t ≡ true) × (compare aims (criteria t) (criteria s) ≡ Less)

-- this is a solution, and the text is clauses in DIMACS that each better one satisfies, with some truth of the variables after the packages
pub record EncodesBetter (aims : List Aim) (s : Proposal) (text : List ℕ) : Type 0 where
  pub cnf : PlainCnf
  pub solution : is_solution s ≡ true
  pub printed : text ≡ dimacs s.problem.packages cnf
  pub models : (is_installed : ℕ → Bool) (unknown : List PlainUnknown) → IsBetter aims s (proposed s.problem is_installed unknown) → Satisfied (length s.problem.packages + 1) is_installed cnf.clauses

-- this is a solution, and none is better
pub record IsBest (aims : List Aim) (s : Proposal) : Type 0 where
  pub solution : is_solution s ≡ true
  pub best : (is_installed : ℕ → Bool) (unknown : List PlainUnknown) → ¬ IsBetter aims s (proposed s.problem is_installed unknown)

-- what a solution of these bytes puts forward for a problem of these
abbrev pub put_forward : List ℕ → List ℕ → Proposal
put_forward problem solution = proposal_of (plain_problem (plain_text problem)) (plain_text solution)

-- what the text means that a job has written on a problem of these bytes and other inputs
abbrev pub Means : Job → List ℕ → List (List ℕ) → List ℕ → Type 0
Means Cnf bytes others text = Encodes (plain_problem (plain_text bytes)) text
Means (CnfBetter aims) bytes others text = EncodesBetter aims.items (put_forward bytes (input_at others 0)) text
Means (Refute explain) bytes others text = Refutes (style_of (Refute explain) unnamed bytes []) (plain_problem (plain_text bytes)) text
Means (RefuteBetter aims) bytes others text = IsBest aims.items (put_forward bytes (input_at others 1))
Means job bytes others text = Unit {0}
