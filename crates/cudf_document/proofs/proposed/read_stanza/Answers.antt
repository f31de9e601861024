use Rattle.std.proofs.Common.{◌≡◌, ℕ, true, List, Option, Some, None, not, is_none, ◌++◌, ◌&&◌, [], refl, sym, ap, ◌∙◌, codes}
use Rattle.std.proofs.lemmas.List.{append-nil}
use Rattle.std.specs.List.{flat_map}
use Rattle.cudf_text.specs.declared.fault.Kind.TheVariants.{E4, E12}
use Rattle.cudf_text.specs.declared.fault.Fault.{Fault}
use Rattle.cudf_text.specs.Stanzas.{PlainStanza}
use Rattle.cudf_text.specs.Promises.Views.{stanza_view}
use Rattle.cudf_problem.specs.declared.problem.Mode.{Mode}
use Rattle.cudf_problem.specs.declared.problem.Postmark.{Postmark}
use Rattle.cudf_problem.specs.declared.problem.Postmark.TheVariants.{Package}
use Rattle.cudf_document.specs.Faults.{lesser, least, fault_if}
use Rattle.cudf_problem.specs.Documents.{has_name, with_earlier, postmark, marks}
use Rattle.cudf_document.specs.ProblemFaults.{misplaced_faults}
use Rattle.cudf_document.specs.SolutionFaults.{value_faults, values_faults, undeclared_in_solution, solution_misplaces, solution_stanza_faults}
use Rattle.cudf_document.specs.Working.DeclaredNames.{names_with}
use Rattle.cudf_document.specs.Working.Judging.{version_property}
use Rattle.cudf_problem.proofs.ListLemmas.{is_none-find}
use Rattle.cudf_document.proofs.ExtraLemmas.{nothing_undeclared}
use Rattle.cudf_document.proofs.FaultLemmas.{least-append}
use Rattle.cudf_document.proofs.MisplacedLemmas.{nothing_misplaced}
use Rattle.cudf_document.proofs.proposed.read_stanza.Goals as goal

-- the first fault, by the postmark
abbrev of_mark : PlainStanza → Mode → List (List ℕ) → Option Postmark → Option Fault
of_mark s mode names m = least (fault_if (is_none m) s.line E4 ++ values_faults m s.properties
    ++ fault_if (marks Package m && is_none (version_property s)) s.last E12 ++ misplaced_faults mode (solution_misplaces m) s.properties
    ++ undeclared_in_solution mode names m s.properties)

by_mark : (s : PlainStanza) (mode : Mode) (names : List (List ℕ)) (m : Option Postmark) → postmark s ≡ m → of_mark s mode names m ≡ least (solution_stanza_faults mode names s)
by_mark s mode names m marked = ap (of_mark s mode names) (sym marked)

pub returns-in-Some-Package-clause-fault : goal.returns-in-Some-Package-clause-fault
returns-in-Some-Package-clause-fault c = λ mode names seen are.
    let s = stanza_view c.args.stanza.now in
    let is_package : c.in-Some-Package.field-0 ≡ Package = rw c.in-Some-Package.is at c.in-Some-Package.field-0-is in
    let marked : postmark s ≡ Some Package = sym c.postmark_of-mark.ensures ∙ c.in-Some-Package.is ∙ ap (λ m. Some m) is_package in
    let inner = flat_map value_faults (with_earlier [] s.properties) in
    let unversioned = fault_if (is_none (version_property s)) s.last E12 in
    let undeclared = undeclared_in_solution mode (names_with names seen) (Some Package) s.properties in
    let none : not c.read_solution_package-fault.result.1.has_version ≡ is_none (version_property s) =
    ap (λ e. not e.has_version) c.read_solution_package-fault.ensures.entry ∙ sym (is_none-find (has_name (codes "version")) s.properties) in
    c.lesser-in-Some-Package.ensures ∙ (λ i. lesser (c.lesser.ensures i) (c.undeclared_fault-undeclared.ensures mode names seen are i))
    ∙ (λ i. lesser (lesser (c.read_solution_package-fault.ensures.fault i) (c.fault_if-unversioned.ensures i)) (least undeclared))
    ∙ ap (λ b. lesser (lesser (least inner) (least (fault_if b s.last E12))) (least undeclared)) none
    ∙ ap (λ f. lesser f (least undeclared)) (sym (least-append inner unversioned))
    ∙ sym (least-append (inner ++ unversioned) undeclared)
    ∙ ap (λ fs. least (fs ++ undeclared)) (sym (append-nil (inner ++ unversioned)) ∙ ap (λ fs. inner ++ unversioned ++ fs) (nothing_misplaced mode s.properties))
    ∙ by_mark s mode (names_with names seen) (Some Package) marked

pub returns-in-None-clause-fault : goal.returns-in-None-clause-fault
returns-in-None-clause-fault c = λ mode names seen are.
    let s = stanza_view c.args.stanza.now in
    let marked : postmark s ≡ None = sym c.postmark_of-mark.ensures ∙ c.in-None.is in
    c.fault_if.ensures
    ∙ (λ i. least (fault_if true s.line E4 ++ nothing_misplaced mode s.properties i ++ nothing_undeclared mode (names_with names seen) None s.properties refl i))
    ∙ by_mark s mode (names_with names seen) None marked
