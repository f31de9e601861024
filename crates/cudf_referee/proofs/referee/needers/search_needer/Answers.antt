use Rattle.std.proofs.Common.{◌+◌, ◌&&◌, ap, sym, ◌∙◌, map}
use Rattle.std.proofs.lemmas.List.{take_all}
use Rattle.std.specs.FinSet as set
use Rattle.cudf_problem.specs.Promises.Views.{package_view}
use Rattle.cudf_index.specs.Satisfaction.{members}
use Rattle.cudf_referee.specs.Explanations.{needed_by, needs_place}
use Rattle.cudf_referee.specs.Working.Needers.{first_passing}
use Rattle.cudf_referee.proofs.NeederLemmas.{search_ends, search_goes_on}
use Rattle.cudf_referee.proofs.referee.needers.search_needer.Goals as goal

pub returns-then-is_needer : goal.returns-then-is_needer
unfolding needed_by
returns-then-is_needer c =
    let status = c.args.index.now in
    let holds = set.contains c.args.status.now in
    let i = c.loop-before.before in
    let next = c.package-item.result in
    let found = sym (ap (λ s. holds (i + 1) && needs_place s c.args.place (i + 1, package_view next)) c.new-installed.ensures
    ∙ ap (λ p. holds (i + 1) && needs_place status c.args.place (i + 1, package_view p)) c.package-item.is) ∙ sym c.is_needer.ensures ∙ c.if-is_needer.true in
    search_ends package_view status c.args.place holds c.packages-package-items.result.now i next c.loop-before-test.true found c.loop-before.invariant
    ∙ ap (first_passing (needs_place status c.args.place)) (ap (members holds) c.packages-package-items.ensures.packages ∙ sym c.requires)

pub loop-before-preserved : goal.loop-before-preserved
loop-before-preserved c =
    let status = c.args.index.now in
    let holds = set.contains c.args.status.now in
    let i = c.loop-before.before in
    let next = c.package-item.result in
    let fails = sym (ap (λ s. holds (i + 1) && needs_place s c.args.place (i + 1, package_view next)) c.new-installed.ensures
    ∙ ap (λ p. holds (i + 1) && needs_place status c.args.place (i + 1, package_view p)) c.package-item.is) ∙ sym c.is_needer.ensures ∙ c.if-is_needer.false in
    search_goes_on package_view status c.args.place holds c.packages-package-items.result.now i next c.loop-before-test.true fails c.loop-before.invariant

pub returns : goal.returns
unfolding needed_by
returns c =
    let all = ap (map package_view) (take_all c.loop-before.before c.packages-package-items.result.now c.loop-before-test.false) ∙ c.packages-package-items.ensures.packages in
    sym c.loop-before.invariant ∙ ap (first_passing (needs_place c.args.index.now c.args.place)) (ap (members (set.contains c.args.status.now)) all ∙ sym c.requires)
