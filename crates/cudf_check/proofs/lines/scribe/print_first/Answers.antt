use Rattle.std.proofs.Common.{◌+◌, ◌≤◌, take, sym, ap, ◌∙◌, subst, arith}
use Rattle.std.specs.List.{flat_map}
use Rattle.cudf_referee.specs.Promises.Views.{instance_view}
use Rattle.cudf_referee.specs.Promises.Walks.{left}
use Rattle.cudf_check.specs.Working.Named.{instance_style}
use Rattle.cudf_check.specs.Working.Pages.{HasSpent, end_key}
use Rattle.cudf_check.specs.Report.{instance_line}
use Rattle.cudf_check.proofs.PageLemmas.{step, last_of_more, take-further, drop-further, ended}
use Rattle.cudf_device.specs.Promises.PaperInside.{has_failed}
use Rattle.cudf_device.proofs.PaperLemmas.{Says-as, ◌▸◌, Says-front, texts-step}
use Rattle.cudf_check.proofs.PagePriceLemmas.{spent-more, price-within, price-ended}
use Rattle.cudf_check.proofs.lines.scribe.print_first.Goals as goal

pub loop-turn-preserved : goal.loop-turn-preserved
loop-turn-preserved g c =
    let is = left c.args.instances.now in
    let n = c.loop-turn.turn in
    let i = instance_view c.in-Some.instance in
    let one = step is n i (left c.next.new.self) (sym c.loop-turn.invariant.left_is ∙ c.in-Some.ensures.steps.gives) in
    record {
      printed = Says-as _ _ _ _ _ (texts-step (instance_line (instance_style c.args.scribe.now.explain c.args.scribe.now.origins c.args.scribe.now.lines) c.args.scribe.now.judged) (take n is) (take (n + 1) is) i one.taken)
          (c.loop-turn.invariant.printed ▸ c.print_line.ensures);
      left_is = one.left_is;
      taken = one.below;
      spent = subst (λ xs. HasSpent xs c.args.instances.now c.next.new.self) (sym one.taken) (spent-more (take n is) i _ _ _ c.loop-turn.invariant.spent c.in-Some.ensures.steps);
      key = sym (ap end_key one.taken ∙ last_of_more (take n is) i);
    }

pub returns-then-has_failed-clause-printed : goal.returns-then-has_failed-clause-printed
returns-then-has_failed-clause-printed g c =
    let is = left c.args.instances.now in
    let n = c.loop-turn.turn in
    let i = instance_view c.in-Some.instance in
    let one = step is n i (left c.next.new.self) (sym c.loop-turn.invariant.left_is ∙ c.in-Some.ensures.steps.gives) in
    let line = instance_line (instance_style c.args.scribe.now.explain c.args.scribe.now.origins c.args.scribe.now.lines) c.args.scribe.now.judged in
    Says-front _ _ _ line is (n + 1) c.args.limit (omega arith) (sym c.has_failed.ensures ∙ c.if-has_failed.true)
    (Says-as _ _ _ _ _ (texts-step line (take n is) (take (n + 1) is) i one.taken) (c.loop-turn.invariant.printed ▸ c.print_line.ensures))

pub returns-then-has_failed-clause-price : goal.returns-then-has_failed-clause-price
returns-then-has_failed-clause-price g c =
    let is = left c.args.instances.now in
    let n = c.loop-turn.turn in
    let i = instance_view c.in-Some.instance in
    let one = step is n i (left c.next.new.self) (sym c.loop-turn.invariant.left_is ∙ c.in-Some.ensures.steps.gives) in
    price-within c.args.instances.now c.next.new.self (n + 1) c.args.limit one.below (omega arith)
    (subst (λ xs. HasSpent xs c.args.instances.now c.next.new.self) (sym one.taken) (spent-more (take n is) i _ _ _ c.loop-turn.invariant.spent c.in-Some.ensures.steps))

pub returns-in-None-clause-printed : goal.returns-in-None-clause-printed
returns-in-None-clause-printed g c =
    let is = left c.args.instances.now in
    let whole = take-further c.loop-turn.turn c.args.limit is (omega arith) (sym c.loop-turn.invariant.left_is ∙ c.in-None.ensures.steps.gives.0) in
    Says-as _ _ _ _ _ (ap (λ js. flat_map (instance_line (instance_style c.args.scribe.now.explain c.args.scribe.now.origins c.args.scribe.now.lines) c.args.scribe.now.judged) js) whole) c.loop-turn.invariant.printed

pub returns-in-None-clause-end : goal.returns-in-None-clause-end
returns-in-None-clause-end g c =
    let is = left c.args.instances.now in
    ended c.args.limit is (left c.next.new.self) (has_failed c.loop-turn.paper) (drop-further c.loop-turn.turn c.args.limit is (omega arith) (sym c.loop-turn.invariant.left_is ∙ c.in-None.ensures.steps.gives.0))

pub returns-in-None-clause-price : goal.returns-in-None-clause-price
returns-in-None-clause-price g c =
    let below : c.loop-turn.turn ≤ c.args.limit = omega arith in
    price-ended c.args.instances.now c.loop-turn.instances c.next.new.self c.loop-turn.turn c.args.limit c.loop-turn.invariant.taken below
    (sym c.loop-turn.invariant.left_is ∙ c.in-None.ensures.steps.gives.0) c.loop-turn.invariant.spent c.in-None.ensures.steps

pub returns-clause-price : goal.returns-clause-price
returns-clause-price g c =
    let below : c.loop-turn.turn ≤ c.args.limit = omega arith in
    price-within c.args.instances.now c.loop-turn.instances c.loop-turn.turn c.args.limit c.loop-turn.invariant.taken below c.loop-turn.invariant.spent
