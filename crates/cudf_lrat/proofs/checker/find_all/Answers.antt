use Rattle.std.proofs.Common.{ℕ, List, [], ◌∷◌, ◌++◌, false, get_or, take, sym, ap, ◌∙◌, subst}
use Rattle.std.specs.List.{list_any}
use Rattle.std.proofs.lemmas.Bool.{not_from_true}
use Rattle.std.proofs.lemmas.List.{map_more}
use Rattle.cudf_lrat.proofs.IndexLemmas.{indices-push, none-more, one-unnamed}
use Rattle.cudf_lrat.specs.Steps.{is_unnamed, values}
use Rattle.cudf_lrat.specs.Working.Indices.{AreIndicesOf, steps_in}
use Rattle.cudf_lrat.specs.declared.reader.SignedNumber.{SignedNumber}
use Rattle.cudf_lrat.proofs.checker.find_all.Goals as goal

pub returns-in-None-clause-named : goal.returns-in-None-clause-named
returns-in-None-clause-named c =
    let none : SignedNumber = record { negative = false; value = 0 } in
    sym (not_from_true _ (one-unnamed (is_unnamed c.args.cnf.now.clauses (steps_in c.args.cnf.now c.args.steps.now)) c.args.hints.now c.loop-hint.hint-index none c.loop-hint-test.true c.in-None.ensures))

pub loop-hint-preserved : goal.loop-hint-preserved
loop-hint-preserved c =
    let cnf = c.args.cnf.now in
    let steps = c.args.steps.now in
    let hints = c.args.hints.now in
    let i = c.loop-hint.hint-index in
    let none : SignedNumber = record { negative = false; value = 0 } in
    let front : List ℕ = values (take i hints) in
    let number : ℕ = (get_or hints i none).value in
    let more = map_more (λ (n : SignedNumber). n.value) hints i none c.loop-hint-test.true in
    record {
      named = ap (list_any (is_unnamed cnf.clauses (steps_in cnf steps))) more ∙ none-more (is_unnamed cnf.clauses (steps_in cnf steps)) front number c.loop-hint.invariant.named c.in-Some.ensures.named;
      indices = subst (λ (ns : List ℕ). AreIndicesOf cnf steps ns c.push.new.self.items) (sym more) (subst (λ (is : List ℕ). AreIndicesOf cnf steps (front ++ number ∷ []) is) (sym c.in_ok-push-in-Some.ensures.items) (indices-push cnf steps front c.loop-hint.indices.items number c.in-Some.index c.loop-hint.invariant.indices c.in-Some.ensures));
    }
