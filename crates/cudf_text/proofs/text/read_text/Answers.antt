use Rattle.std.proofs.Common.{ap, ◌∙◌, sym}
use Rattle.cudf_text.specs.declared.cursor.Next.TheVariants as next
use Rattle.cudf_text.specs.declared.text.Stanza.{Stanza}
use Rattle.cudf_text.specs.Working.Left.{text_left, with_tracked}
use Rattle.cudf_text.specs.Working.Tracked.{tracked_properties}
use Rattle.cudf_text.proofs.TrackedLemmas.{IsHeld-next, IsHeld-start, joins_is, text_is}
use Rattle.cudf_text.proofs.text.read_text.Goals as goal

pub stanzas-init : goal.stanzas-init
stanzas-init c = record { held = IsHeld-start c.args.source.now c.new-stanzas.result.items _ c.new-stanzas.ensures.items c.start-place.ensures.left; counted = c.start-place.ensures.counted }

pub stanzas-preserved : goal.stanzas-preserved
stanzas-preserved c =
    let ps = tracked_properties c.read_stanza.new.parts.items c.read_stanza.new.others.items in
    let s : Stanza = record { line = c.in-Stanza.line; last = c.in-Stanza.last; properties = c.in_ok-properties-in-Stanza.properties } in
    record {
      held = IsHeld-next c.args.source.now c.stanzas.stanzas.items c.push.new.self.items s (text_left c.stanzas.place) (text_left c.in_ok-next.behind) c.stanzas.invariant.held
          (c.in_ok-next.ensures.read ∙ ap (λ n. with_tracked n ps (text_left c.in_ok-next.behind)) c.in-Stanza.is
          ∙ ap (λ qs. with_tracked (next.Stanza c.in-Stanza.line c.in-Stanza.last) qs (text_left c.in_ok-next.behind)) (ap (λ parts. tracked_properties parts c.read_stanza.new.others.items) (sym c.deref.ensures.value) ∙ sym c.in_ok-properties-in-Stanza.ensures)) c.in_ok-push-in-Stanza.ensures.items;
      counted = c.in_ok-next.ensures.counted;
    }

pub returns-in-End-clause-text : goal.returns-in-End-clause-text
returns-in-End-clause-text c =
    text_is c.args.source.now c.stanzas.stanzas.items (text_left c.stanzas.place) c.in-End.fault c.in-End.lines c.stanzas.invariant.held
    (c.in_ok-next.ensures.read ∙ ap (λ n. with_tracked n (tracked_properties c.read_stanza.new.parts.items c.read_stanza.new.others.items) (text_left c.in_ok-next.behind)) c.in-End.is)

pub returns-in-End-clause-borrowed : goal.returns-in-End-clause-borrowed
returns-in-End-clause-borrowed c =
    joins_is c.args.source.now c.stanzas.stanzas.items (text_left c.stanzas.place) c.in-End.fault c.in-End.lines c.stanzas.invariant.held
    (c.in_ok-next.ensures.read ∙ ap (λ n. with_tracked n (tracked_properties c.read_stanza.new.parts.items c.read_stanza.new.others.items) (text_left c.in_ok-next.behind)) c.in-End.is)
