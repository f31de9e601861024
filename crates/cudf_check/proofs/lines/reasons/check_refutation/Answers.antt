use Rattle.std.proofs.Common.{◌≡◌, ◌++◌, IsTrue, length, codes, decimal, refl, ap, subst, sym, ◌∙◌}
use Rattle.cudf_lrat.specs.Answers.{answer_view, checked, refuted}
use Rattle.cudf_lrat.specs.Kinds.{kind_text}
use Rattle.cudf_job.specs.Keys.{never_descend}
use Rattle.cudf_reasons.specs.Laws.{keys_of}
use Rattle.cudf_check.specs.Report.{core_text, line, needed, proof_report}
use Rattle.cudf_device.proofs.PaperLemmas.{Prints-as, Says-as}
use Rattle.cudf_check.specs.Working.Named.{proof_style}
use Rattle.cudf_check.proofs.CoreLemmas.{core_by_key}
use Rattle.cudf_check.proofs.ProofLemmas.{refute_by, rules_are}
use Rattle.cudf_check.proofs.lines.reasons.check_refutation.Goals as goal

pub print_core-requires-clause-ordered : goal.print_core-requires-clause-ordered
print_core-requires-clause-ordered g c =
    let held = c.args.clauses.now in
    let problem = c.args.problem.now in
    let proof = c.args.proof.now in
    let numbers = c.in-Ok-Refuted.numbers.items in
    let shown = subst (λ a. answer_view a ≡ checked c.cnf-cnf.result.now.variables c.cnf-cnf.result.now.clauses proof) c.in-Ok-Refuted.field-0-is c.in-Ok-Refuted.ensures in
    subst (λ ns. IsTrue (never_descend (keys_of (needed held.clauses ns)))) (sym c.deref.ensures.value)
    (core_by_key problem c.cnf-cnf.result.now.variables held.clauses proof numbers c.ordered.ensures (ap (λ k. k.clauses) c.requires.1)
    (ap (λ clauses. checked c.cnf-cnf.result.now.variables clauses proof) (sym c.cnf-cnf.ensures.clauses) ∙ sym shown))

pub returns-in_ok-said-in-Ok-Faulty : goal.returns-in_ok-said-in-Ok-Faulty
returns-in_ok-said-in-Ok-Faulty g c =
    let proof = c.args.proof.now in
    let problem = c.args.problem.now in
    let style = proof_style c.args.explain proof in
    let found = c.in-Ok-Faulty in
    let cnf = c.cnf-cnf in
    let given = cnf.result.now in
    let shown = subst (λ a. answer_view a ≡ checked given.variables given.clauses proof) found.field-0-is found.ensures in
    let rules = rules_are problem c.args.clauses.now given c.requires cnf.ensures.places cnf.ensures.clauses in
    Prints-as _ _ _ _ _ _ (ap (proof_report style (length given.clauses) (core_text style problem)) shown ∙ refute_by style problem proof given c.requires.0 rules)
    (record {
      said = Says-as _ _ _ _ _ (ap (λ text. line (codes "proof line " ++ decimal found.line ++ codes ": " ++ kind_text found.kind ++ text)) c.in_ok-said-in-Ok-Faulty.ensures) c.print_step_fault.ensures;
      answered = refl;
      untouched = tt;
    })

pub returns-in-Ok-Refuted : goal.returns-in-Ok-Refuted
returns-in-Ok-Refuted g c =
    let proof = c.args.proof.now in
    let problem = c.args.problem.now in
    let style = proof_style c.args.explain proof in
    let found = c.in-Ok-Refuted in
    let cnf = c.cnf-cnf in
    let given = cnf.result.now in
    let shown = subst (λ a. answer_view a ≡ checked given.variables given.clauses proof) found.field-0-is found.ensures in
    let rules = rules_are problem c.args.clauses.now given c.requires cnf.ensures.places cnf.ensures.clauses in
    Prints-as _ _ _ _ _ _ (ap (proof_report style (length given.clauses) (core_text style problem)) (ap refuted c.deref.ensures.value ∙ shown) ∙ refute_by style problem proof given c.requires.0 rules)
    c.print_core.ensures
