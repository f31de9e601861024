use Rattle.std.proofs.Common.{List, ◌++◌, ap}
use Rattle.std.specs.List.{flat_map}
use Rattle.std.proofs.lemmas.Result.{IfOk-weaker}
use Rattle.cudf_value.specs.Promises.Views.{vpkg_view}
use Rattle.cudf_referee.specs.Promises.Views.{instance_view}
use Rattle.cudf_cnf.specs.Cnf.{Keyed, keyed_clauses}
use Rattle.cudf_cnf.specs.Working.Parts.{differing_at, givers_of, keyed}
use Rattle.cudf_cnf.proofs.CollectorLemmas.{outcome_as, settled}
use Rattle.cudf_cnf.proofs.InstanceLemmas.{many_arm}
use Rattle.cudf_cnf.proofs.ProblemLemmas.{problem_fits}
use Rattle.cudf_cnf.proofs.encoder.Encoder.put.Goals as goal

pub put_many-requires-clause-fits : goal.put_many-requires-clause-fits
put_many-requires-clause-fits c = problem_fits c.args.to.now.clauses.places c.args.self.now.problem.now.packages c.args.self.now.all c.args.self.now.every c.args.self.now.few c.requires.places

pub put_other-requires-clause-fits : goal.put_other-requires-clause-fits
put_other-requires-clause-fits c = problem_fits c.args.to.now.clauses.places c.args.self.now.problem.now.packages c.args.self.now.all c.args.self.now.every c.args.self.now.few c.requires.places

pub returns-in-Some-clause-outcome : goal.returns-in-Some-clause-outcome
returns-in-Some-clause-outcome c =
    let all = c.args.self.now.all in
    let i = instance_view c.args.instance.now in
    let v = vpkg_view c.in-Some.vpkg in
    let held = c.args.to.now.clauses.clauses in
    IfOk-weaker c.put_many.result _ _
    (λ b h. outcome_as b (held ++ keyed i.key (flat_map (differing_at all v.name) (givers_of all v.name))) (held ++ keyed_clauses c.args.self.now.problem.now i) c.put_many.new.to
    (ap (λ (ks : List Keyed). held ++ ks) (many_arm c.args.self.now.problem.now i v all c.in-Some.ensures.0 c.in-Some.ensures.1 c.args.self.now.every)) h)
    c.put_many.ensures.outcome

pub returns-clause-outcome : goal.returns-clause-outcome
returns-clause-outcome c = settled c.has_room.result _ _ c.in_ok-put_other.ensures.put c.has_room.ensures
