use Rattle.std.proofs.Common.{◌≡◌, ◌<◌, length, sym, ap, ◌∙◌, arith}
use Rattle.std.specs.FinSet as set
use Rattle.std.proofs.lemmas.List.{length-map}
use Rattle.cudf_problem.specs.Promises.Views.{package_view}
use Rattle.cudf_referee.specs.Working.Needers.{holds_other}
use Rattle.cudf_referee.proofs.RemedyLemmas.{first_is_held, none_held_more}
use Rattle.cudf_referee.proofs.referee.needers.first_held.Goals as goal

pub returns-then-holds_other : goal.returns-then-holds_other
returns-then-holds_other c =
    let packages = c.args.problem.now.packages in
    let i = c.loop-before.before in
    let long : length packages ≡ length c.packages-before-end.result.now = sym (ap length c.packages-before-end.ensures.packages) ∙ length-map c.packages-before-end.result.now package_view in
    let inside : i < length packages = omega (arith, long, c.loop-before-test.true) in
    first_is_held (holds_other (set.contains c.args.status.now) c.args.except) packages i inside (sym c.holds_other.ensures ∙ c.if-holds_other.true) c.loop-before.invariant

pub loop-before-preserved : goal.loop-before-preserved
loop-before-preserved c =
    let packages = c.args.problem.now.packages in
    let i = c.loop-before.before in
    let long : length packages ≡ length c.packages-before-end.result.now = sym (ap length c.packages-before-end.ensures.packages) ∙ length-map c.packages-before-end.result.now package_view in
    let inside : i < length packages = omega (arith, long, c.loop-before-test.true) in
    none_held_more (holds_other (set.contains c.args.status.now) c.args.except) packages i inside (sym c.holds_other.ensures ∙ c.if-holds_other.false) c.loop-before.invariant
