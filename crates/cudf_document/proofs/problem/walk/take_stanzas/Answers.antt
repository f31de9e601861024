use Rattle.std.proofs.Common.{◌∙◌, ap, map}
use Rattle.cudf_text.specs.Promises.Cursor.{with_next}
use Rattle.cudf_text.specs.Stanzas.{PlainStanza}
use Rattle.cudf_text.specs.Promises.Views.{property_view}
use Rattle.cudf_document.specs.Working.Kept.{AreParts}
use Rattle.cudf_document.specs.Working.Walks.{texts}
use Rattle.cudf_document.proofs.WalkLemmas.{GoesOn-start, GoesOn-next, GoesOn-end}
use Rattle.cudf_document.proofs.problem.walk.take_stanzas.Goals as goal

pub stanzas-init : goal.stanzas-init
stanzas-init c = λ keeps start.
    GoesOn-start c.args.mode (λ ss. AreParts keeps ss c.args.kept.now) c.args.walk.now (texts c.new-required.result.items) c.args.stanzas start (ap texts c.new-required.ensures.items)

pub stanzas-preserved : goal.stanzas-preserved
stanzas-preserved c = λ keeps start.
    let s : PlainStanza = record { line = c.in-Stanza.line; last = c.in-Stanza.last; properties = map property_view c.next.new.properties.items } in
    GoesOn-next c.args.mode (λ ss. AreParts keeps ss c.stanzas.kept) (λ ss. AreParts keeps ss c.take.new.kept) c.stanzas.walk c.take.new.self c.stanzas.is_first
    (texts c.stanzas.required.items) (texts c.require.new.required.items) c.stanzas.stanzas c.next.new.self c.args.stanzas s
    (c.stanzas.invariant keeps start)
    (c.in_ok-line.ensures.read ∙ ap (λ n. with_next n c.next.new.properties.items c.next.new.self) c.in-Stanza.is)
    (λ now first required so_far. c.in_ok-take-in-Stanza.ensures keeps now first (ap texts c.deref.ensures.value ∙ required) so_far)
    c.in_ok-require-in-Stanza.ensures.first (λ later. ap (λ v. texts v.items) (c.in_ok-require-in-Stanza.ensures.later later))

pub returns-in-End : goal.returns-in-End
returns-in-End c = λ keeps start.
    GoesOn-end c.args.mode (λ ss. AreParts keeps ss c.stanzas.kept) c.stanzas.walk c.end.new.self c.stanzas.is_first (texts c.stanzas.required.items) c.stanzas.stanzas c.args.stanzas c.in-End.fault c.in-End.lines
    (c.stanzas.invariant keeps start)
    (c.in_ok-line.ensures.read ∙ ap (λ n. with_next n c.next.new.properties.items c.next.new.self) c.in-End.is)
    c.end.ensures.first c.end.ensures.declarations c.end.ensures.ids
