use Rattle.std.proofs.Common.{◌+◌, List, [], ◌∷◌, map, refl, ap, sym, subst, arith}
use Rattle.cudf_index.specs.Satisfaction.{Placed}
use Rattle.cudf_problem.specs.Promises.Views.{unknown_view}
use Rattle.cudf_referee.specs.Promises.PositionViews.{position_view}
use Rattle.cudf_referee.specs.Promises.Stops.{stop_at}
use Rattle.cudf_referee.specs.Promises.Views.{instance_view}
use Rattle.cudf_referee.specs.Promises.Walks.{Walking}
use Rattle.cudf_referee.specs.Working.Located.{IsLocated}
use Rattle.cudf_referee.specs.Working.Walkers.{put_forward}
use Rattle.cudf_referee.proofs.MoveLemmas.{walking}
use Rattle.cudf_referee.proofs.SearchLemmas.{judged-stop, searches-same}
use Rattle.cudf_referee.proofs.referee.instances.Instances.judge.Goals as goal

pub returns : goal.returns
returns c =
    let j = c.self.inside in
    let us = map unknown_view j.solution.now.unknown.items in
    let s = put_forward j.problem.now j.now.status us in
    let i = instance_view c.args.instance.now in
    let new = c.is_violated.new in
    searches-same (walking s (position_view j.position) (j.now.steps + j.steps)) _ _ (λ s. stop_at i ∷ []) _ c.self.view_is
    (judged-stop (walking s (position_view j.position) (j.now.steps + j.steps)) (walking (put_forward j.problem.now new.now.status us) (position_view j.position) (new.now.steps + new.steps)) i c.is_violated.result
    (ap (λ (ps : List Placed). put_forward j.problem.now ps us) c.is_violated.ensures.status) refl
    (c.is_violated.ensures.answer j.problem.now us c.self.invariant.0 (subst (λ (w : Walking). IsLocated w.judged i) (sym c.self.view_is) c.requires))
    (omega (arith, c.is_violated.ensures.price, c.tick.ensures)) (omega (arith, c.is_violated.ensures.grows, c.tick.ensures)))
