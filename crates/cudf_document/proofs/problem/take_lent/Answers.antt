use Rattle.std.proofs.Common.{◌≡◌, true, ◌+◌, ◌++◌, ◌∷◌, [], map, take, subst, refl, sym, ap, arith, ◌∙◌}
use Rattle.std.proofs.lemmas.List.{take_all}
use Rattle.cudf_text.specs.Promises.Views.{own_stanza_view}
use Rattle.cudf_problem.specs.Documents.{is_empty}
use Rattle.cudf_problem.specs.Preamble.{declared}
use Rattle.cudf_document.specs.ProblemFaults.{required_names}
use Rattle.cudf_document.specs.Working.Kept.{AreParts}
use Rattle.cudf_document.specs.Working.Walks.{texts, IsSoFar}
use Rattle.cudf_problem.proofs.ListLemmas.{is_empty-push, map_next}
use Rattle.cudf_document.proofs.WalkLemmas.{required_none, required_next}
use Rattle.cudf_document.proofs.problem.take_lent.Goals as goal

pub loop-stanza-init : goal.loop-stanza-init
loop-stanza-init c = λ start. (refl, ap texts c.new-required.ensures.items ∙ required_none c.args.mode, start)

pub loop-stanza-preserved : goal.loop-stanza-preserved
loop-stanza-preserved c = λ start.
    let items = c.args.text.now.stanzas.items in
    let i = c.loop-stanza.stanza-index in
    let before = map own_stanza_view (take i items) in
    let s = own_stanza_view c.stanza-item.result in
    let more : map own_stanza_view (take (i + 1) items) ≡ before ++ s ∷ [] =
    map_next own_stanza_view items c.deref-stanza-items.result.now i c.stanza-item.result (omega arith) c.stanza-item.is c.deref-stanza-items.ensures.value in
    let so_far : IsSoFar c.args.mode (λ ts. AreParts true ts c.take.new.kept) c.take.new.self (before ++ s ∷ []) =
    subst (λ t. IsSoFar c.args.mode (λ ts. AreParts true ts c.take.new.kept) c.take.new.self (before ++ t ∷ [])) c.in_ok-lend.ensures
    (c.in_ok-take.ensures true before (c.loop-stanza.invariant start).0 (ap texts c.deref.ensures.value ∙ (c.loop-stanza.invariant start).1) (c.loop-stanza.invariant start).2) in (
      sym (ap is_empty more ∙ is_empty-push before s),
      required_next c.args.mode c.loop-stanza.is_first (texts c.loop-stanza.required.items) (texts c.require.new.required.items) c.take.new.self before s (c.loop-stanza.invariant start).0
          so_far.declared_are (c.loop-stanza.invariant start).1 c.in_ok-require.ensures.first (λ later. ap (λ v. texts v.items) (c.in_ok-require.ensures.later later))
          ∙ ap (λ ss. required_names c.args.mode (declared ss)) (sym more),
      subst (λ ss. IsSoFar c.args.mode (λ ts. AreParts true ts c.take.new.kept) c.take.new.self ss) (sym more) so_far,
    )

pub returns : goal.returns
returns c = λ start.
    let items = c.args.text.now.stanzas.items in
    subst (λ ss. IsSoFar c.args.mode (λ ts. AreParts true ts c.loop-stanza.parts) c.loop-stanza.walk ss)
    (ap (map own_stanza_view) (take_all c.loop-stanza.stanza-index items (omega arith))) (c.loop-stanza.invariant start).2
