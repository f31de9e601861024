use Rattle.std.proofs.Common.{◌≡◌, List, map, refl, ap, sym, subst, arith}
use Rattle.std.proofs.lemmas.Grind.{common_steps}
use Rattle.std.specs.FinSet as set
use Rattle.cudf_problem.specs.Promises.Views.{unknown_view}
use Rattle.cudf_problem.specs.Universe.{PlainRequest}
use Rattle.cudf_index.specs.Satisfaction.{Placed}
use Rattle.cudf_index.specs.Promises.Prices.{Metering}
use Rattle.cudf_referee.specs.Violations.{request_instances}
use Rattle.cudf_referee.specs.Working.RequestInstancesLeft.{request_left_view}
use Rattle.cudf_referee.specs.Working.Walkers.{put_forward, Agrees}
use Rattle.cudf_referee.proofs.CursorLemmas.{at-start}
use Rattle.cudf_referee.proofs.referee.instances.Instances.new.Goals as goal

pub invariant_of-result : goal.invariant_of-result
invariant_of-result c =
    let us = map unknown_view c.args.solution.now.unknown.items in
    let same = ap (λ (m : Metering). m.status) c.metered.ensures in (
      subst (λ (ps : List Placed). Agrees c.args.problem.now (set.contains c.args.solution.now.status) c.args.before.now ps c.args.named.now us) (sym same) c.requires,
      tt,
      at-start (put_forward c.args.problem.now c.metered.result.status us) c.of.result 0 (subst (λ (r : PlainRequest). request_left_view r c.of.result ≡ request_instances r) c.request.ensures c.of.ensures) (record { begins = refl; within = omega arith }),
    )

pub returns : goal.returns
returns c = grind (arith, common_steps)
