use Rattle.std.proofs.Common.{◌+◌, ◌-◌, ◌/◌, map, length, refl, sym, ◌∙◌}
use Rattle.std.proofs.lemmas.List.{length-map}
use Rattle.cudf_problem.specs.Promises.Views.{unknown_view}
use Rattle.cudf_referee.specs.Working.Places.{stanza_numbers}
use Rattle.cudf_referee.proofs.UnknownLemmas.{halved_start, halved_right, halved_left, halved_end, halved_least}
use Rattle.cudf_referee.proofs.referee.instances.first_above.Goals as goal

pub loop-low-init : goal.loop-low-init
loop-low-init c =
    let unknown = map unknown_view c.args.unknown.now in
    halved_start unknown c.args.number (length c.args.unknown.now) c.args.steps.now c.requires
    (sym (length-map unknown (λ u. u.stanza) ∙ length-map c.args.unknown.now unknown_view))

pub loop-low-preserved-then-number_at-number : goal.loop-low-preserved-then-number_at-number
loop-low-preserved-then-number_at-number c =
    halved_right (stanza_numbers (map unknown_view c.args.unknown.now)) c.args.number c.loop-low.low c.loop-low.high c.args.steps.now c.loop-low.steps (c.loop-low.low + (c.loop-low.high - c.loop-low.low) / 2) c.number_at.result c.number_at.new.steps
    c.loop-low.invariant c.loop-low-test.true refl c.number_at.ensures.price c.number_at.ensures.value c.if-number_at-number.true

pub loop-low-preserved : goal.loop-low-preserved
loop-low-preserved c =
    halved_left (stanza_numbers (map unknown_view c.args.unknown.now)) c.args.number c.loop-low.low c.loop-low.high c.args.steps.now c.loop-low.steps (c.loop-low.low + (c.loop-low.high - c.loop-low.low) / 2) c.number_at.result c.number_at.new.steps
    c.loop-low.invariant c.loop-low-test.true refl c.number_at.ensures.price c.number_at.ensures.value c.if-number_at-number.false

pub returns-clause-left : goal.returns-clause-left
returns-clause-left c =
    halved_end (map unknown_view c.args.unknown.now) c.args.number c.loop-low.low c.loop-low.high c.args.steps.now c.loop-low.steps c.loop-low.invariant c.loop-low-test.false

pub returns-clause-grows : goal.returns-clause-grows
returns-clause-grows c =
    let unknown = map unknown_view c.args.unknown.now in
    halved_least unknown c.args.number (length c.args.unknown.now) c.loop-low.low c.loop-low.high c.args.steps.now c.loop-low.steps c.loop-low.invariant c.loop-low-test.false
    (sym (length-map unknown (λ u. u.stanza) ∙ length-map c.args.unknown.now unknown_view))
