use Rattle.std.proofs.Common.{◌∙◌, ◌+◌, ap}
use Rattle.cudf_text.specs.Working.Steps.{open_state, stepped}
use Rattle.cudf_text.specs.Working.Tracked.{TrackedStanza, tracked_properties}
use Rattle.cudf_text.proofs.ReadLemmas.{SoFar-start, SoFar-stanza, no_fault}
use Rattle.cudf_text.proofs.cursor.read_stanza.Goals as goal

pub loop-line-init : goal.loop-line-init
loop-line-init c =
    SoFar-start c.args.place (tracked_properties c.clear.new.self.items c.clear-2.new.self.items) (λ i. tracked_properties (c.clear.ensures.items i) (c.clear-2.ensures.items i))

pub returns-in-End-clause-read : goal.returns-in-End-clause-read
returns-in-End-clause-read c =
    let place = c.loop-line.place in
    let read = tracked_properties c.take.new.parts.items c.take.new.others.items in
    let st : TrackedStanza = record { line = c.in-End.line; last = c.take.new.last; properties = read } in
    SoFar-stanza c.args.place place (open_state (tracked_properties c.loop-line.parts.items c.loop-line.others.items) c.loop-line.last) c.in-Some.line.now c.in-Some.rest.now st c.take.new.last
    c.loop-line.invariant (no_fault place.fault c.is_none.result c.is_none.ensures c.if-is_none.true) c.in-Some.ensures.parts
    (c.in_ok-take.ensures ∙ ap (λ t. stepped t (place.lines + 1) (open_state read c.take.new.last)) c.in-End.is)
