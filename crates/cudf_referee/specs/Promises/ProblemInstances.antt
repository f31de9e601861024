-- What contracts see of the instances of a problem that are left: own.
use Rattle.std.specs.Prelude.{List}
use Rattle.cudf_referee.specs.declared.instance.ProblemInstances.{ProblemInstances}
use Rattle.cudf_referee.specs.Instances.{PlainInstance}
use Rattle.cudf_referee.specs.Working.ProblemLeft.{left_from}

unfoldable pub instances_left : ProblemInstances → List PlainInstance
instances_left i = left_from i.problem.now i.passed i.begun i.request
