use Rattle.std.proofs.Common.{◌≡◌, false, leb, length, map, sym, ap, ◌∙◌, arith}
use Rattle.std.specs.List.{list_any}
use Rattle.std.proofs.lemmas.Bool.{lt-leb}
use Rattle.std.proofs.lemmas.Result.{IfOk-weaker}
use Rattle.cudf_lrat.proofs.StepLemmas.{propagate-named, result_map-map, named-from, negative-from, result-propagated, within-from}
use Rattle.cudf_lrat.specs.Answers.{with_step}
use Rattle.cudf_lrat.specs.Steps.{denied, derived, greatest_number, is_beyond, is_unnamed, literal_of, named_clause, propagate, result_map, step_result, values}
use Rattle.cudf_lrat.specs.Working.Indices.{indexed, number_at, steps_in}
use Rattle.cudf_lrat.specs.Working.Views.{taken_view}
use Rattle.cudf_lrat.proofs.checker.Checker.take_step.Goals as goal

pub returns-clause-taken : goal.returns-clause-taken
returns-clause-taken c =
    let cnf = c.args.cnf.now in
    let self = c.args.self.now in
    let before = steps_in cnf self.steps in
    let new : leb c.args.number (greatest_number cnf.clauses before) ≡ false = lt-leb c.args.number (greatest_number cnf.clauses before) (omega (arith, c.greatest_number.ensures)) in
    let within : list_any (is_beyond cnf.variables) self.literals.items ≡ false = within-from c.in_ok-within.within c.variables.result cnf.variables c.deref.result.now self.literals.items c.variables.ensures.variables c.deref.ensures.value c.in_ok-within.ensures.within c.if-not-within.false in
    let plain : list_any (λ n. n.negative) self.hints.items ≡ false = negative-from false c.deref-2.result.now self.hints.items c.deref-2.ensures.value c.if-has_negative.ensures in
    let named : list_any (is_unnamed cnf.clauses before) (values self.hints.items) ≡ false = named-from c.in_ok-named.named cnf.clauses before c.deref-3.result.now self.hints.items c.deref-3.ensures.value c.in_ok-named.ensures.named c.if-not-named.false in
    let at = number_at (length cnf.clauses) self.steps.numbers.items in
    let clause = c.read_clause.new.clause.items in
    let indices = c.find_all.new.indices.items in
    let clause_is : clause ≡ map literal_of self.literals.items = c.in_ok-within.ensures.clause c.if-not-within.false ∙ (λ i. map literal_of (c.deref.ensures.value i)) in
    let found = c.in_ok-named.ensures.indices c.if-not-named.false in
    let numbers_are : map at indices ≡ values self.hints.items = found.numbers_are ∙ (λ i. values (c.deref-3.ensures.value i)) in
    let same : result_map (λ used. derived c.args.number clause (map at used)) (propagate (indexed cnf self.steps) (denied clause) indices) ≡ step_result cnf.variables cnf.clauses before c.args.number self.literals.items self.hints.items =
    (λ i. result_map (λ used. derived c.args.number (clause_is i) (map at used)) (propagate (indexed cnf self.steps) (denied (clause_is i)) indices))
    ∙ sym (result_map-map (derived c.args.number (map literal_of self.literals.items)) (map at) (propagate (indexed cnf self.steps) (denied (map literal_of self.literals.items)) indices))
    ∙ ap (result_map (derived c.args.number (map literal_of self.literals.items))) (sym (propagate-named (named_clause cnf.clauses before) (indexed cnf self.steps) at (denied (map literal_of self.literals.items)) indices found.clauses_are)
    ∙ ap (propagate (named_clause cnf.clauses before) (denied (map literal_of self.literals.items))) numbers_are)
    ∙ sym (result-propagated cnf.variables cnf.clauses before c.args.number self.literals.items self.hints.items new within plain named) in
    IfOk-weaker c.derive.result
    (λ t. taken_view t (steps_in cnf c.derive.new.self.steps) ≡ with_step before (result_map (λ used. derived c.args.number clause (map at used)) (propagate (indexed cnf self.steps) (denied clause) indices)))
    (λ t. taken_view t (steps_in cnf c.derive.new.self.steps) ≡ with_step before (step_result cnf.variables cnf.clauses before c.args.number self.literals.items self.hints.items))
    (λ t h. h ∙ ap (with_step before) same) c.derive.ensures.taken
