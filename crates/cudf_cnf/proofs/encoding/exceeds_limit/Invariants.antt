use Rattle.std.proofs.Common.{◌≡◌, ◌+◌, length}
use Rattle.std.specs.Prelude.{All}
use Rattle.std.specs.List.{flat_map}
use Rattle.cudf_referee.specs.Promises.ProblemInstances.{instances_left}
use Rattle.cudf_referee.specs.Promises.Where.{IsWhere}
use Rattle.cudf_cnf.specs.Cnf.{cnf, keyed_clauses}
use Rattle.cudf_cnf.proofs.encoding.exceeds_limit.Given as goal

abbrev pub invariant-loop-instance : goal.invariant-loop-instance
invariant-loop-instance l = record {
  counted : length (cnf l.encoder.problem.now) + l.left ≡ 4294967295 + length (flat_map (keyed_clauses l.encoder.problem.now) (instances_left l.instance-iterator));
  each : All (IsWhere l.encoder.problem.now) (instances_left l.instance-iterator);
}
