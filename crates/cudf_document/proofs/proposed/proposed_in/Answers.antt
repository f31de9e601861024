use Rattle.std.proofs.Common.{map, take, refl, sym, ap, ◌∙◌, ◌++◌, ◌∷◌, [], subst, arith}
use Rattle.std.proofs.lemmas.List.{take_all}
use Rattle.std.proofs.lemmas.Result.{IfOk-weaker, err_from_is_err_and}
use Rattle.cudf_text.specs.Promises.Views.{own_stanza_view, text_view}
use Rattle.cudf_document.specs.Working.Proposed.{IsRead}
use Rattle.cudf_problem.proofs.ListLemmas.{map_next}
use Rattle.cudf_document.proofs.proposed.proposed_in.Goals as goal

pub loop-stanza-preserved : goal.loop-stanza-preserved
loop-stanza-preserved c =
    let items = c.args.text.now.stanzas.items in
    let i = c.loop-stanza.stanza-index in
    let before = map own_stanza_view (take i items) in
    let names = c.args.problem.now.extra_names in
    subst (λ l. IsRead c.args.mode names l c.take.new.self)
    (ap (λ s. before ++ s ∷ []) c.in_ok-lend.ensures
    ∙ sym (map_next own_stanza_view items c.deref-stanza-items.result.now i c.stanza-item.result (omega arith) c.stanza-item.is c.deref-stanza-items.ensures.value))
    (c.in_ok-take.ensures c.args.mode names before c.loop-stanza.invariant)

all_read : (c : goal.After-drop-lent-2) → IsRead c.args.mode c.args.problem.now.extra_names (text_view c.args.text.now).stanzas c.loop-stanza.reader
all_read c =
    let items = c.args.text.now.stanzas.items in
    let i = c.loop-stanza.stanza-index in
    let len = c.deref-stanza-items.ensures.len in
    subst (λ l. IsRead c.args.mode c.args.problem.now.extra_names (map own_stanza_view l) c.loop-stanza.reader) (take_all i items (omega arith)) c.loop-stanza.invariant

pub returns : goal.returns
returns c =
    let text = text_view c.args.text.now in
    let names = c.args.problem.now.extra_names in
    let is = c.finish.ensures.proposed c.args.mode names text refl (all_read c) in
    record {
      sound = IfOk-weaker c.finish.result _ _ (λ p proposed. proposed.sound) is;
      installed = IfOk-weaker c.finish.result _ _ (λ p proposed. proposed.installed_are) is;
      fault = c.finish.ensures.fault c.args.mode names text refl (all_read c);
    }

pub returns-in_err-lend-clause-fault : goal.returns-in_err-lend-clause-fault
returns-in_err-lend-clause-fault c =
    let p = err_from_is_err_and c.from_residual-in_err-lend.result c.from_residual-in_err-lend.ensures.1 in
    rw (p.1, p.2) tt

pub returns-in_err-take-clause-fault : goal.returns-in_err-take-clause-fault
returns-in_err-take-clause-fault c =
    let p = err_from_is_err_and c.from_residual-in_err-take.result c.from_residual-in_err-take.ensures.1 in
    rw (p.1, p.2) tt
