use Rattle.std.proofs.Common.{◌∙◌, ap, map}
use Rattle.std.proofs.lemmas.Result.{IfOk-weaker, err_from_is_err_and}
use Rattle.cudf_text.specs.Promises.Cursor.{with_next}
use Rattle.cudf_text.specs.Stanzas.{PlainStanza}
use Rattle.cudf_text.specs.Promises.Views.{property_view}
use Rattle.cudf_document.proofs.ProposedLemmas.{IsReadWhole, GoesOn-next, GoesOn-end}
use Rattle.cudf_document.proofs.proposed.proposed_of.Goals as goal

pub stanzas-preserved : goal.stanzas-preserved
stanzas-preserved c =
    let s : PlainStanza = record { line = c.in-Stanza.line; last = c.in-Stanza.last; properties = map property_view c.next.new.properties.items } in
    GoesOn-next c.args.mode c.args.problem.now.extra_names c.stanzas.reader c.take.new.self c.stanzas.stanzas c.next.new.self c.args.stanzas s c.stanzas.invariant
    (c.in_ok-line.ensures.read ∙ ap (λ n. with_next n c.next.new.properties.items c.next.new.self) c.in-Stanza.is)
    (c.in_ok-take-in-Stanza.ensures c.args.mode c.args.problem.now.extra_names)

whole : (c : goal.After-drop-stanzas-inside-in-End) → IsReadWhole c.args.mode c.args.problem.now.extra_names c.stanzas.reader c.in-End.fault c.args.stanzas
whole c =
    GoesOn-end c.args.mode c.args.problem.now.extra_names c.stanzas.reader c.stanzas.stanzas c.args.stanzas c.in-End.fault c.in-End.lines c.stanzas.invariant
    (c.in_ok-line.ensures.read ∙ ap (λ n. with_next n c.next.new.properties.items c.next.new.self) c.in-End.is)

pub returns-in-End : goal.returns-in-End
returns-in-End c =
    let names = c.args.problem.now.extra_names in
    let is = c.finish.ensures.proposed c.args.mode names c.args.stanzas (whole c).fault_is (whole c).read in
    record {
      sound = IfOk-weaker c.finish.result _ _ (λ p proposed. proposed.sound) is;
      installed = IfOk-weaker c.finish.result _ _ (λ p proposed. proposed.installed_are) is;
      fault = c.finish.ensures.fault c.args.mode names c.args.stanzas (whole c).fault_is (whole c).read;
    }

pub returns-in_err-line-clause-fault : goal.returns-in_err-line-clause-fault
returns-in_err-line-clause-fault c =
    let p = err_from_is_err_and c.from_residual-in_err-line.result c.from_residual-in_err-line.ensures.1 in
    rw (p.1, p.2) tt

pub returns-in_err-take-in-Stanza-clause-fault : goal.returns-in_err-take-in-Stanza-clause-fault
returns-in_err-take-in-Stanza-clause-fault c =
    let p = err_from_is_err_and c.from_residual-in_err-take-in-Stanza.result c.from_residual-in_err-take-in-Stanza.ensures.1 in
    rw (p.1, p.2) tt
