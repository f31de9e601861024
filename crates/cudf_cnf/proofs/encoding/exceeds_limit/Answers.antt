use Rattle.std.proofs.Common.{◌≡◌, List, length, sym, ap, subst, ◌∙◌, arith}
use Rattle.std.specs.Prelude.{All}
use Rattle.std.specs.List.{flat_map}
use Rattle.std.proofs.lemmas.List.Elements.{All-head, All-tail}
use Rattle.cudf_referee.specs.Instances.{PlainInstance}
use Rattle.cudf_referee.specs.Promises.ProblemInstances.{instances_left}
use Rattle.cudf_referee.specs.Promises.Views.{instance_view}
use Rattle.cudf_referee.specs.Promises.Where.{IsWhere}
use Rattle.cudf_referee.specs.Violations.{problem_instances}
use Rattle.cudf_referee.proofs.WhereLemmas.{all_where}
use Rattle.cudf_cnf.specs.Cnf.{cnf, keyed_clauses}
use Rattle.cudf_cnf.proofs.CountLemmas.{counted_next}
use Rattle.cudf_cnf.proofs.encoding.exceeds_limit.Goals as goal

pub loop-instance-init : goal.loop-instance-init
unfolding cnf
loop-instance-init c =
    let problem = c.args.encoder.now.problem.now in
    let left : instances_left c.into_iter-instance-iterator.result ≡ problem_instances problem = ap instances_left c.into_iter-instance-iterator.ensures.into_iter_gives ∙ c.of-instance-items.ensures in
    record {
      counted = omega (arith, ap (λ (is : List PlainInstance). length (flat_map (keyed_clauses problem) is)) left);
      each = subst (All (IsWhere problem)) (sym left) (all_where problem);
    }

pub count_of-count-requires-clause-at : goal.count_of-count-requires-clause-at
count_of-count-requires-clause-at c =
    let problem = c.args.encoder.now.problem.now in
    All-head (IsWhere problem) (instance_view c.in-Some.instance) (instances_left c.next.new.self) (subst (All (IsWhere problem)) c.in-Some.ensures.steps c.loop-instance.invariant.each)

pub loop-instance-preserved : goal.loop-instance-preserved
loop-instance-preserved c =
    let problem = c.args.encoder.now.problem.now in
    let i = instance_view c.in-Some.instance in
    let rest = instances_left c.next.new.self in
    let before = c.loop-instance.invariant in
    record {
      counted = omega (arith, before.counted, counted_next problem i (instances_left c.loop-instance.instance-iterator) rest c.in-Some.ensures.steps, c.count_of-count.ensures, c.if-count-left.false);
      each = All-tail (IsWhere problem) i rest (subst (All (IsWhere problem)) c.in-Some.ensures.steps before.each);
    }
