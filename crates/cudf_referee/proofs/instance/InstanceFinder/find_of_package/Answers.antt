use Rattle.std.proofs.Common.{◌-◌, ◌≤◌, length, arith, ap, sym, ◌∙◌, subst}
use Rattle.std.specs.Prelude.{option_map}
use Rattle.cudf_problem.specs.Universe.{PlainProblem}
use Rattle.cudf_job.specs.KeyViews.{key_view}
use Rattle.cudf_referee.specs.Promises.Views.{instance_view}
use Rattle.cudf_referee.specs.Proposals.{everything}
use Rattle.cudf_referee.specs.Violations.{package_instances}
use Rattle.cudf_referee.specs.Working.PackageInstancesLeft.{placed_view}
use Rattle.cudf_referee.proofs.FinderLemmas.{package-left, package-found}
use Rattle.cudf_referee.proofs.FoundLemmas.{of-no-package}
use Rattle.cudf_referee.proofs.instance.InstanceFinder.find_of_package.Goals as goal

pub returns-in_err-candidate-clause-found : goal.returns-in_err-candidate-clause-found
returns-in_err-candidate-clause-found c =
    ap (option_map instance_view) c.from_residual.ensures
    ∙ sym (of-no-package (key_view c.args.key) c.args.self.now c.args.place (c.args.place - 1) c.requires.part (omega arith)
    (subst (λ (q : PlainProblem). length q.packages ≤ c.args.place - 1) c.self.view_is c.in_err-candidate.ensures))

pub invariant_of-self : goal.invariant_of-self
invariant_of-self c =
    let candidate = c.in_ok-candidate.candidate in
    let seeks = c.seek-found.ensures (package_instances (everything c.args.self.now) (placed_view candidate)) c.package_left-left.ensures in (
      package-left c.self.inside.problem.now c.args.self.now c.self.view_is c.args.place candidate c.requires.counted c.in_ok-candidate.ensures (key_view c.args.key)
          c.seek-found.new.left seeks.after,
      c.self.invariant.1,
    )

pub returns-clause-found : goal.returns-clause-found
returns-clause-found c =
    let candidate = c.in_ok-candidate.candidate in
    let seeks = c.seek-found.ensures (package_instances (everything c.args.self.now) (placed_view candidate)) c.package_left-left.ensures in
    seeks.one
    ∙ package-found c.self.inside.problem.now c.args.self.now c.self.view_is c.args.place candidate c.requires.counted c.in_ok-candidate.ensures (key_view c.args.key) c.requires.part
