-- What is answered of a problem and a solution: texts and outcomes. Own.
use Rattle.std.specs.Prelude.{ℕ, ◌-◌, Bool, List, [], ◌∷◌, ◌++◌, length, map, filter_map, take, slice_get, codes, decimal, Option, Some, None, option_and_then, if◌then◌else◌}
use Rattle.std.specs.List.{flat_map, last_or, enumerate_from}
use Rattle.std.specs.Option.{option_map_or}
use Rattle.std.specs.Str.{is_utf8}
use Rattle.cudf_text.specs.declared.fault.Fault.{Fault}
use Rattle.cudf_text.specs.Faults.{fault_text}
use Rattle.cudf_text.specs.Stanzas.{PlainText, plain_text}
use Rattle.cudf_text.specs.LineFaults.{utf8_fault}
use Rattle.cudf_text.specs.Joined.{is_fail}
use Rattle.cudf_value.specs.Vpkgs.{PlainVpkg}
use Rattle.cudf_value.specs.Printing.{vpkg_text, clause_text}
use Rattle.cudf_problem.specs.declared.problem.Mode.{Mode}
use Rattle.cudf_document.specs.Faults.{least}
use Rattle.cudf_document.specs.ProblemFaults.{problem_faults}
use Rattle.cudf_document.specs.SolutionFaults.{solution_faults}
use Rattle.cudf_problem.specs.Universe.{PlainPackage, PlainProblem, plain_problem, package_at}
use Rattle.cudf_index.specs.Satisfaction.{Placed}
use Rattle.cudf_problem.specs.Statuses.{is_initial, is_proposed, unknown_stanzas}
use Rattle.cudf_problem.specs.Ids.{Id}
use Rattle.cudf_job.specs.Aims.{aim_text, count_row}
use Rattle.cudf_job.specs.declared.criteria.Aim.{Aim}
use Rattle.cudf_job.specs.declared.key.Aspect.{Aspect}
use Rattle.cudf_job.specs.declared.key.Aspect.TheVariants.{Unsatisfied, Many, Lower}
use Rattle.cudf_job.specs.declared.criteria.Count.{Count}
use Rattle.cudf_job.specs.declared.criteria.Count.TheVariants.{Removed, New, Changed, NotUpToDate, UnsatRecommends}
use Rattle.cudf_job.specs.declared.criteria.Criteria.{Criteria}
use Rattle.cudf_job.specs.Vectors.{paranoid, trendy}
use Rattle.cudf_referee.specs.Criteria.{criteria}
use Rattle.cudf_problem.specs.Documents.{is_empty}
use Rattle.cudf_job.specs.Keys.{PlainKey, key_text}
use Rattle.cudf_referee.specs.Instances.{PlainWhat, needs, conflicts_with, keep_version, keep_package, keep_feature, install, remove, upgrade, unknown, PlainInstance}
use Rattle.cudf_referee.specs.Proposals.{Proposal, proposal}
use Rattle.cudf_referee.specs.Violations.{instance_of, listing, met_by, rest}
use Rattle.cudf_referee.specs.Solutions.{is_solution}
use Rattle.cudf_lrat.specs.Answers as lrat
use Rattle.cudf_lrat.specs.Kinds.{kind_text}
use Rattle.cudf_lrat.specs.Literals.{PlainCnf}
use Rattle.cudf_lrat.specs.declared.cnf.Literal.{Literal}
use Rattle.cudf_cnf.specs.Cnf.{Keyed, cnf, clauses_of, is_too_large}
use Rattle.cudf_reasons.specs.Reasons.{reasons_of}
use Rattle.cudf_reasons.specs.Views.{Told, told_as}
use Rattle.cudf_check.specs.Styles.{Document, of_problem, of_solution, Style, document_of}
use Rattle.cudf_device.specs.Outcomes.{Report}
use Rattle.cudf_device.specs.declared.outcome.Outcome.{Outcome}
use Rattle.cudf_device.specs.declared.outcome.Outcome.TheVariants.{Yes, No, Faulty, Fail, TooLarge}

-- a line with its end
abbrev pub line : List ℕ → List ℕ
line text = text ++ 10 ∷ []

-- a report of one line
abbrev pub alone : List ℕ → Outcome → Report
alone text outcome = record { text = line text; outcome = outcome }

-- ---- faulty documents

-- `problem line 3: E9 value is not of its type`
abbrev pub faulty : Style → Document → List ℕ → Fault → Report
faulty style document whose f = alone
    (style.prefix document f.line ++ whose ++ style.location document f.line ++ codes ": " ++ fault_text f.kind ++ style.added_to_fault document f)
    Faulty

-- the first fault of a problem: E1 where its bytes aren't UTF-8
abbrev pub problem_fault : Mode → List ℕ → Option Fault
problem_fault mode bytes = if is_utf8 bytes then least (problem_faults (plain_text bytes) mode) else Some (utf8_fault bytes)

-- the first fault of a solution of a problem that declares these names; a text that says FAIL can have E1 alone
abbrev pub solution_fault : Mode → List (List ℕ) → List ℕ → Option Fault
solution_fault mode names bytes = if is_utf8 bytes then (if is_fail bytes then None else least (solution_faults (plain_text bytes) mode names)) else Some (utf8_fault bytes)

-- ---- instances

-- ` NAME VERSION`, where there is one
abbrev pub subject_text : Option Id → List ℕ
subject_text subject = option_map_or (λ (name, version). codes " " ++ name ++ codes " " ++ decimal version) subject []

-- the package that meets an entry, where there is one
abbrev pub meeting_text : Option PlainPackage → List ℕ
meeting_text met = option_map_or (λ p. codes ", met by " ++ p.name ++ codes " " ++ decimal p.version) met []

-- what is wrong with an entry of `upgrade`
abbrev pub upgrade_text : PlainVpkg → Option Aspect → List ℕ
upgrade_text v None = []
upgrade_text v (Some Unsatisfied) = codes "upgrade needs " ++ vpkg_text v
upgrade_text v (Some Many) = codes "upgrade " ++ v.name ++ codes " has several versions"
upgrade_text v (Some Lower) = codes "upgrade " ++ v.name ++ codes " is lower than before"

-- what is wrong, with the package that meets the entry
abbrev pub what_text : PlainWhat → Option Aspect → Option PlainPackage → List ℕ
what_text (needs clause) aspect met = codes "needs " ++ clause_text clause
what_text (conflicts_with v) aspect met = codes "conflicts with " ++ vpkg_text v ++ meeting_text met
what_text keep_version aspect met = codes "keep version"
what_text keep_package aspect met = codes "keep package"
what_text (keep_feature v) aspect met = codes "keep feature " ++ vpkg_text v
what_text (install v) aspect met = codes "needs " ++ vpkg_text v
what_text (remove v) aspect met = codes "must remove " ++ vpkg_text v ++ meeting_text met
what_text (upgrade v) aspect met = upgrade_text v aspect
what_text unknown aspect met = codes "not in the universe"

-- `p1.depends.1 car 1 line 1: needs wheel > 2`
abbrev pub met_text : Style → PlainInstance → Option PlainPackage → List ℕ
met_text style i met = let document = document_of i.key.part in
    style.prefix document i.line ++ key_text i.key ++ subject_text i.subject ++ style.location document i.line ++ codes ": " ++ what_text i.what i.key.aspect met

abbrev pub instance_line : Style → Proposal → PlainInstance → List ℕ
instance_line style s i = line (met_text style i (option_and_then (package_at s.problem) (met_by s.proposed i)) ++ style.added_to_instance s i)

-- ---- pages of the listing

-- `more after p1.depends.1`, where the listing has a greater key than the last instance of the page
abbrev pub more_text : Proposal → Option PlainInstance → List ℕ
more_text s last = option_map_or (λ i. if is_empty (rest i.key s) then [] else line (codes "more after " ++ key_text i.key)) last []

-- the violated instances whose keys come after this one, all of them where there is none; of these the first ones, where there
-- is a limit: a line for each, and where the next page begins
abbrev pub check_text : Style → Option PlainKey → Option ℕ → Proposal → List ℕ
check_text style after limit s =
    let left = option_map_or (λ key. rest key s) after (listing s) in
    let page = option_map_or (λ n. take n left) limit left in
    flat_map (instance_line style s) page ++ more_text s (last_or None page)

-- ---- scores

-- `removed 2`
abbrev pub count_line : List ℕ → ℕ → List ℕ
count_line name count = line (name ++ codes " " ++ decimal count)

-- `paranoid 2 3`
abbrev pub vector_line : List ℕ → List ℕ → List ℕ
vector_line name counts = line (name ++ flat_map (λ count. codes " " ++ decimal count) counts)

-- the counts of the competition, in the order of their lines
abbrev pub scored_counts : List Count
scored_counts = Removed ∷ New ∷ Changed ∷ NotUpToDate ∷ UnsatRecommends ∷ []

-- a line for each count, and one for each vector
abbrev pub criteria_text : Criteria → List ℕ
criteria_text c =
    flat_map (λ count. count_line (count_row count).0 ((count_row count).1 c)) scored_counts
    ++ vector_line (codes "paranoid") (paranoid c)
    ++ vector_line (codes "trendy") (trendy c)

-- `-removed 2`
abbrev pub aim_line : Criteria → Aim → List ℕ
aim_line c aim = count_line (aim_text aim) ((count_row aim.count).1 c)

-- a line for each of the aims in their order, where there are aims; and else the counts and vectors of the competition
abbrev pub scored_text : Option (List Aim) → Proposal → List ℕ
scored_text None s = criteria_text (criteria s)
scored_text (Some aims) s = flat_map (aim_line (criteria s)) aims

-- ---- judging

-- whether it is a solution
abbrev pub verdict : Bool → Report
verdict is_yes = if is_yes then alone (codes "solution yes") Yes else alone (codes "solution no") No

-- what was found, and the verdict after it
abbrev pub judged_report : (Proposal → List ℕ) → Proposal → Report
judged_report found s = record { text = found s ++ (verdict (is_solution s)).text; outcome = (verdict (is_solution s)).outcome }

-- what a solution's text puts forward for a problem
abbrev pub proposal_of : PlainProblem → PlainText → Proposal
proposal_of problem text = proposal problem (is_initial problem) (is_proposed problem text.stanzas) (unknown_stanzas problem text.stanzas)

-- ---- documents

-- a solution of a problem that has no fault: the solution's fault, or else FAIL, or else what is found of the proposed status
abbrev pub solution_report : Style → Mode → (Proposal → List ℕ) → PlainProblem → List ℕ → Report
solution_report style mode found problem solution =
    option_map_or (faulty style of_solution (codes "solution")) (solution_fault mode problem.extra_names solution)
    (if is_fail solution then alone (codes "solution FAIL") Fail else judged_report found (proposal_of problem (plain_text solution)))

-- a problem: its fault, or else what is answered of it
abbrev pub problem_report : Style → Mode → List ℕ → (PlainProblem → Report) → Report
problem_report style mode bytes answer =
    option_map_or (faulty style of_problem (codes "problem")) (problem_fault mode bytes) (answer (plain_problem (plain_text bytes)))

-- ---- CNFs

-- this text, with `Yes`
abbrev pub with_yes : List ℕ → Report
with_yes text = record { text = text; outcome = Yes }

-- nothing is written of a CNF that is too large
abbrev pub unless_too_large : Bool → Report → Report
unless_too_large large report = if large then (record { text = []; outcome = TooLarge }) else report

-- a comment for a package, as `c p1 car 1`
abbrev pub package_comment : Placed → List ℕ
package_comment (place, p) = line (codes "c p" ++ decimal place ++ codes " " ++ p.name ++ codes " " ++ decimal p.version)

-- `p cnf 5 6`: how many variables and clauses there are
abbrev pub header_line : ℕ → ℕ → List ℕ
header_line places clauses = line (codes "p cnf " ++ decimal places ++ codes " " ++ decimal clauses)

-- a literal and a blank
abbrev pub literal_text : Literal → List ℕ
literal_text l = (if l.positive then [] else codes "-") ++ decimal l.variable ++ codes " "

-- a clause, as `-1 2 0`
abbrev pub clause_line : List Literal → List ℕ
clause_line literals = line (flat_map literal_text literals ++ codes "0")

-- clauses in DIMACS, whose first variables are packages
abbrev pub dimacs : List PlainPackage → PlainCnf → List ℕ
dimacs packages formula = flat_map package_comment (enumerate_from 1 packages) ++ header_line formula.variables (length formula.clauses) ++ flat_map clause_line formula.clauses

-- the clauses of a problem over its packages
abbrev pub rules_of : PlainProblem → PlainCnf
rules_of problem = record { variables = length problem.packages; clauses = clauses_of (cnf problem) }

abbrev pub cnf_answer : PlainProblem → Report
cnf_answer problem = unless_too_large (is_too_large problem) (with_yes (dimacs problem.packages (rules_of problem)))

-- ---- refutations

-- another package that meets an entry
abbrev pub also_text : Option PlainPackage → List ℕ
also_text met = option_map_or (λ p. codes ", " ++ p.name ++ codes " " ++ decimal p.version) met []

-- the packages at these places, as `, met by mailer 4, proxy 1`
abbrev pub met_texts : PlainProblem → List ℕ → List ℕ
met_texts problem [] = []
met_texts problem (place ∷ places) = meeting_text (package_at problem place) ++ flat_map (λ other. also_text (package_at problem other)) places

-- the line of an instance that is met by the packages at these places
abbrev pub reason_line : Style → PlainProblem → PlainInstance × List ℕ → List ℕ
reason_line style problem (i, places) = line (met_text style i None ++ met_texts problem places ++ style.added_to_reason problem i)

-- that of the instance of a key, with all packages by which its clauses are needed
abbrev pub told_line : Style → PlainProblem → Told → List ℕ
told_line style problem (key, places) = option_map_or (λ i. reason_line style problem (i, places)) (instance_of problem key) []

-- the clauses of these numbers from 1
abbrev pub needed : List Keyed → List ℕ → List Keyed
needed clauses numbers = filter_map (λ n. slice_get clauses (n - 1)) numbers

-- no status keeps all of these instances, so none is a solution
abbrev pub core_text : Style → PlainProblem → List ℕ → List ℕ
core_text style problem core = flat_map (told_line style problem) (map told_as (reasons_of (needed (cnf problem) core))) ++ line (codes "no solution exists")

-- what comes of a proof: the line of its first fault; or else what is said of the clauses that it needs
abbrev pub proof_report : Style → ℕ → (List ℕ → List ℕ) → lrat.PlainAnswer → Report
proof_report style clauses found (lrat.faulty number kind) =
    alone (codes "proof line " ++ decimal number ++ codes ": " ++ kind_text kind ++ style.added_to_proof clauses number kind) No
proof_report style clauses found (lrat.refuted core) = with_yes (found core)

-- of a proof against a CNF
abbrev pub checked_report : Style → PlainCnf → (List ℕ → List ℕ) → List ℕ → Report
checked_report style cnf found proof = proof_report style (length cnf.clauses) found (lrat.checked cnf.variables cnf.clauses proof)

abbrev pub refute_answer : Style → List ℕ → PlainProblem → Report
refute_answer style proof problem = unless_too_large (is_too_large problem) (checked_report style (rules_of problem) (core_text style problem) proof)
