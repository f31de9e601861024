use Rattle.std.proofs.Common.{[], ◌∷◌, sym, ◌∙◌}
use Rattle.cudf_job.specs.KeyViews.{key_view}
use Rattle.cudf_referee.specs.Proposals.{everything}
use Rattle.cudf_referee.specs.Violations.{package_instances}
use Rattle.cudf_referee.specs.Working.PackageInstancesLeft.{placed_view, left_view}
use Rattle.cudf_referee.proofs.AscentLemmas.{climbing_ascends, instances_climb}
use Rattle.cudf_referee.proofs.FinderLemmas.{kept-package}
use Rattle.cudf_referee.proofs.SoughtLemmas.{rest-all, rest-same, rest-climbing}
use Rattle.cudf_referee.proofs.instance.InstanceFinder.package_left.Goals as goal

pub returns-then-precedes : goal.returns-then-precedes
returns-then-precedes c =
    let s = everything c.args.self.now in
    let q = placed_view c.args.candidate in
    rest-climbing (key_view c.in-Some.last) (key_view c.args.key) (sym c.precedes.ensures ∙ c.if-precedes.true) (1 ∷ q.0 ∷ []) (package_instances s q) (1 ∷ q.0 ∷ 4 ∷ [])
    (instances_climb s q) (left_view q c.in-Some.left)
    (kept-package c.self.inside.problem.now c.args.self.now c.self.view_is c.self.inside.of_package c.in-Some.place c.in-Some.last c.in-Some.left c.args.candidate
    c.self.invariant.0 c.in-Some.is c.if-place-candidate.true c.requires)

pub returns : goal.returns
returns c =
    let s = everything c.args.self.now in
    let q = placed_view c.args.candidate in
    let all = package_instances s q in
    rest-same (key_view c.args.key) all all (left_view q c.left.result) (sym (c.left.ensures s c.requires.fits))
    (rest-all (key_view c.args.key) all (climbing_ascends (1 ∷ q.0 ∷ []) all (1 ∷ q.0 ∷ 4 ∷ []) (instances_climb s q)))
