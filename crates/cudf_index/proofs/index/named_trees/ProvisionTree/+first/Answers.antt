use Rattle.std.proofs.Common.{sym, ap, ◌∙◌}
use Rattle.cudf_index.specs.Working.FirstPlaces.{meets_beside, first_place_of, may_meet}
use Rattle.cudf_index.proofs.HalvesLemmas.{in_back, in_second, in_front}
use Rattle.cudf_index.proofs.TreeLemmas.{none_met}
use Rattle.cudf_index.proofs.index.named_trees.ProvisionTree.+first.Goals as goal

pub returns-then-not-may_meet : goal.returns-then-not-may_meet
returns-then-not-may_meet t c =
    in_second (meets_beside c.args.except c.args.bound) c.self.inside.node c.args.self.now c.in-Halves.entries c.in-Halves.front c.in-Halves.back c.self.view_is c.self.invariant c.in-Halves.is
    c.first.result
    (λ xs held. none_met c.args.except c.args.bound xs c.in-Halves.entries.value held (ap (may_meet c.args.except c.args.bound) (sym c.deref-in-Halves.ensures) ∙ sym c.may_meet.ensures ∙ c.if-not-may_meet.true))
    (c.first.ensures ∙ ap (first_place_of c.args.except c.args.bound) c.deref-then-not-may_meet.ensures)

pub returns-in-None : goal.returns-in-None
returns-in-None t c =
    in_back (meets_beside c.args.except c.args.bound) c.self.inside.node c.args.self.now c.in-Halves.entries c.in-Halves.front c.in-Halves.back c.self.view_is c.self.invariant c.in-Halves.is
    c.first-in-Halves.result c.first-in-None.result
    (c.first-in-Halves.ensures ∙ ap (first_place_of c.args.except c.args.bound) c.deref-in-Halves-2.ensures) (c.first-in-None.ensures ∙ ap (first_place_of c.args.except c.args.bound) c.deref-in-None.ensures) c.in-None.is

pub returns-in_default : goal.returns-in_default
returns-in_default t c =
    in_front (meets_beside c.args.except c.args.bound) c.self.inside.node c.args.self.now c.in-Halves.entries c.in-Halves.front c.in-Halves.back c.self.view_is c.self.invariant c.in-Halves.is
    c.first-in-Halves.result (c.first-in-Halves.ensures ∙ ap (first_place_of c.args.except c.args.bound) c.deref-in-Halves-2.ensures) c.in_default.not-None
