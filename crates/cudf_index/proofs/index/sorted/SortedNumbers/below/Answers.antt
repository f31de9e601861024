use Rattle.std.proofs.Common.{refl, ◌∙◌, subst}
use Rattle.std.specs.List.Sorted.{IsNonDecreasing}
use Rattle.cudf_index.proofs.SearchedLemmas.{searched_start, searched_right, searched_left, searched_end, searched_stands}
use Rattle.cudf_index.proofs.index.sorted.SortedNumbers.below.Goals as goal

pub loop-low-init : goal.loop-low-init
loop-low-init c = searched_start c.args.self.now c.args.bound c.args.high c.args.steps.now (subst IsNonDecreasing c.self.view_is c.self.invariant) c.requires.within c.requires.behind

pub loop-low-preserved-then-from-bound : goal.loop-low-preserved-then-from-bound
loop-low-preserved-then-from-bound c =
    searched_right c.args.self.now c.args.bound c.args.high c.loop-low.low c.loop-low.high c.args.steps.now c.loop-low.steps c.at.new.steps c.from.result _ c.loop-low.invariant c.loop-low-test.true refl c.at.ensures.price (λ d. c.from.ensures ∙ c.at.ensures.value d) c.if-from-bound.true

pub loop-low-preserved : goal.loop-low-preserved
loop-low-preserved c =
    searched_left c.args.self.now c.args.bound c.args.high c.loop-low.low c.loop-low.high c.args.steps.now c.loop-low.steps c.at.new.steps c.from.result _ c.loop-low.invariant c.loop-low-test.true refl c.at.ensures.price (λ d. c.from.ensures ∙ c.at.ensures.value d) c.if-from-bound.false

pub returns-clause-counted : goal.returns-clause-counted
returns-clause-counted c = searched_end c.args.self.now c.args.bound c.args.high c.loop-low.low c.loop-low.high c.args.steps.now c.loop-low.steps c.loop-low.invariant c.loop-low-test.false

pub returns-clause-stands : goal.returns-clause-stands
returns-clause-stands c = searched_stands c.args.self.now c.args.bound c.args.high c.loop-low.low c.loop-low.high c.args.steps.now c.loop-low.steps c.loop-low.invariant c.loop-low-test.false
