use Rattle.std.proofs.Common.{◌≡◌, List, ◌++◌, length, refl, sym, ap, subst, ◌∙◌, arith}
use Rattle.std.specs.Prelude.{All}
use Rattle.std.specs.List.{flat_map}
use Rattle.std.proofs.lemmas.List.{append-nil}
use Rattle.std.proofs.lemmas.List.Elements.{All-head, All-tail}
use Rattle.cudf_referee.specs.Instances.{PlainInstance}
use Rattle.cudf_referee.specs.Promises.ProblemInstances.{instances_left}
use Rattle.cudf_referee.specs.Promises.Views.{instance_view}
use Rattle.cudf_referee.specs.Promises.Where.{IsWhere}
use Rattle.cudf_referee.specs.Violations.{problem_instances}
use Rattle.cudf_referee.proofs.WhereLemmas.{all_where}
use Rattle.cudf_cnf.specs.Cnf.{Keyed, cnf, keyed_clauses}
use Rattle.cudf_cnf.proofs.CollectorLemmas.{had_none, had_room, one_more, too_many}
use Rattle.cudf_cnf.proofs.encoding.fill.Goals as goal

pub loop-instance-init : goal.loop-instance-init
unfolding cnf
loop-instance-init c =
    let problem = c.args.encoder.now.problem.now in
    let left : instances_left c.into_iter-instance-iterator.result ≡ problem_instances problem = ap instances_left c.into_iter-instance-iterator.ensures.into_iter_gives ∙ c.of-instance-items.ensures in
    record {
      fits = omega (arith, ap (λ (ks : List Keyed). length ks) c.requires.blank);
      left = (λ j. c.requires.blank j ++ flat_map (keyed_clauses problem) (left j));
      each = subst (All (IsWhere problem)) (sym left) (all_where problem);
      same = record { places = refl; room = refl };
    }

pub put-requires-clause-places : goal.put-requires-clause-places
put-requires-clause-places c = c.loop-instance.invariant.same.places ∙ c.requires.places

pub put-requires-clause-at : goal.put-requires-clause-at
put-requires-clause-at c =
    let problem = c.args.encoder.now.problem.now in
    All-head (IsWhere problem) (instance_view c.in-Some.instance) (instances_left c.next.new.self) (subst (All (IsWhere problem)) c.in-Some.ensures.steps c.loop-instance.invariant.each)

pub loop-instance-preserved : goal.loop-instance-preserved
loop-instance-preserved c =
    let problem = c.args.encoder.now.problem.now in
    let i = instance_view c.in-Some.instance in
    let before = c.loop-instance.invariant in
    let held = c.loop-instance.to.clauses.clauses in
    let rest = instances_left c.next.new.self in
    let put = had_room c.in_ok-put.field-0 (held ++ keyed_clauses problem i) c.put.new.to c.if-not-branch.false c.in_ok-put.ensures.outcome in
    record {
      fits = put.fits;
      left = ap (λ (ks : List Keyed). ks ++ flat_map (keyed_clauses problem) rest) put.held ∙ one_more problem held i (instances_left c.loop-instance.instance-iterator) rest c.in-Some.ensures.steps before.left;
      each = All-tail (IsWhere problem) i rest (subst (All (IsWhere problem)) c.in-Some.ensures.steps before.each);
      same = record { places = c.put.ensures.same.places ∙ before.same.places; room = c.put.ensures.same.room ∙ before.same.room };
    }

pub returns-then-not-branch-clause-outcome : goal.returns-then-not-branch-clause-outcome
returns-then-not-branch-clause-outcome c =
    let problem = c.args.encoder.now.problem.now in
    let i = instance_view c.in-Some.instance in
    let held = c.loop-instance.to.clauses.clauses in
    let rest = instances_left c.next.new.self in
    too_many (held ++ keyed_clauses problem i) (flat_map (keyed_clauses problem) rest) (cnf problem) c.put.new.to
    (one_more problem held i (instances_left c.loop-instance.instance-iterator) rest c.in-Some.ensures.steps c.loop-instance.invariant.left)
    (had_none c.in_ok-put.field-0 (held ++ keyed_clauses problem i) c.put.new.to c.if-not-branch.true c.in_ok-put.ensures.outcome)

pub returns-clause-outcome : goal.returns-clause-outcome
returns-clause-outcome c =
    let problem = c.args.encoder.now.problem.now in
    let before = c.loop-instance.invariant in
    let held = c.loop-instance.to.clauses.clauses in
    record {
      held = sym (append-nil held) ∙ ap (λ (is : List PlainInstance). held ++ flat_map (keyed_clauses problem) is) (sym c.in-None.ensures.steps.0) ∙ before.left;
      fits = before.fits;
    }
