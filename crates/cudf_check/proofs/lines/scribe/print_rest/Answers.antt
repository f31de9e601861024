use Rattle.std.proofs.Common.{◌≡◌, ◌+◌, Option, None, option_map, length, take, sym, ap, ◌∙◌, subst, arith}
use Rattle.std.specs.List.{flat_map}
use Rattle.std.proofs.lemmas.List.{take_all}
use Rattle.cudf_referee.specs.declared.instance.Instance.{Instance}
use Rattle.cudf_referee.specs.Promises.Views.{instance_view}
use Rattle.cudf_referee.specs.Promises.Walks.{Walking, left, Moves}
use Rattle.cudf_check.specs.Working.Named.{instance_style}
use Rattle.cudf_check.specs.Report.{instance_line}
use Rattle.cudf_check.proofs.PageLemmas.{step, take-further}
use Rattle.cudf_device.proofs.PaperLemmas.{Says-none, Says-as, ◌▸◌, Says-front, texts-step}
use Rattle.cudf_check.proofs.PagePriceLemmas.{taken-start, taken-more, price-taken, price-all}
use Rattle.cudf_check.proofs.lines.scribe.print_rest.Goals as goal

pub loop-instance-init : goal.loop-instance-init
unfolding taken-start
loop-instance-init g c = record { taken = taken-start c.args.instances.now; printed = Says-none _ _ }

pub loop-instance-preserved : goal.loop-instance-preserved
unfolding taken-more
loop-instance-preserved g c =
    let taken = c.loop-instance.invariant.taken in
    let is = left c.args.instances.now in
    let i = instance_view c.in-Some.instance in
    let one = step is taken.number i (left c.next.new.self) (sym taken.left_is ∙ c.in-Some.ensures.steps.gives) in
    record {
      taken = taken-more i _ _ _ taken c.in-Some.ensures.steps;
      printed = Says-as _ _ _ _ _ (texts-step (instance_line (instance_style c.args.scribe.now.explain c.args.scribe.now.origins c.args.scribe.now.lines) c.args.scribe.now.judged) (take taken.number is) (take (taken.number + 1) is) i one.taken)
          (c.loop-instance.invariant.printed ▸ c.print_line.ensures);
    }

pub returns-then-has_failed-clause-printed : goal.returns-then-has_failed-clause-printed
returns-then-has_failed-clause-printed g c =
    let taken = c.loop-instance.invariant.taken in
    let is = left c.args.instances.now in
    let i = instance_view c.in-Some.instance in
    let one = step is taken.number i (left c.next.new.self) (sym taken.left_is ∙ c.in-Some.ensures.steps.gives) in
    let line = instance_line (instance_style c.args.scribe.now.explain c.args.scribe.now.origins c.args.scribe.now.lines) c.args.scribe.now.judged in
    Says-as _ _ _ _ _ (ap (flat_map line) (take_all (length is) is (omega arith)))
    (Says-front _ _ _ line is (taken.number + 1) (length is) one.below (sym c.has_failed.ensures ∙ c.if-has_failed.true)
    (Says-as _ _ _ _ _ (texts-step line (take taken.number is) (take (taken.number + 1) is) i one.taken) (c.loop-instance.invariant.printed ▸ c.print_line.ensures)))

pub returns-then-has_failed-clause-price : goal.returns-then-has_failed-clause-price
returns-then-has_failed-clause-price g c =
    price-taken c.args.instances.now c.next.new.self (taken-more (instance_view c.in-Some.instance) _ _ _ c.loop-instance.invariant.taken c.in-Some.ensures.steps)

-- nothing was found
at_end : (old new : Walking) (found : Option Instance) → found ≡ None → Moves old (option_map instance_view found) new → Moves old None new
at_end old new found is moves = subst (λ (o : Option Instance). Moves old (option_map instance_view o) new) is moves

pub returns-clause-printed : goal.returns-clause-printed
returns-clause-printed g c =
    let taken = c.loop-instance.invariant.taken in
    let is = left c.args.instances.now in
    let moves = at_end c.loop-instance.instances c.next.new.self c.next.result c.in_default.is c.next.ensures.steps in
    let whole = take-further taken.number (length is) is taken.within (sym taken.left_is ∙ moves.gives.0) in
    Says-as _ _ _ _ _ (ap (flat_map (instance_line (instance_style c.args.scribe.now.explain c.args.scribe.now.origins c.args.scribe.now.lines) c.args.scribe.now.judged)) (whole ∙ take_all (length is) is (omega arith))) c.loop-instance.invariant.printed

pub returns-clause-price : goal.returns-clause-price
returns-clause-price g c =
    let moves = at_end c.loop-instance.instances c.next.new.self c.next.result c.in_default.is c.next.ensures.steps in
    price-all c.args.instances.now c.loop-instance.instances c.next.new.self c.loop-instance.invariant.taken moves
