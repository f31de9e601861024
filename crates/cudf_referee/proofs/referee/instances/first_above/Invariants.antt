use Rattle.std.proofs.Common.{◌-◌, map}
use Rattle.cudf_problem.specs.Promises.Views.{unknown_view}
use Rattle.cudf_referee.specs.Working.Places.{stanza_numbers}
use Rattle.cudf_referee.proofs.UnknownLemmas.{Halved}
use Rattle.cudf_referee.proofs.referee.instances.first_above.Given as goal

abbrev pub invariant-loop-low : goal.invariant-loop-low
invariant-loop-low l = Halved (stanza_numbers (map unknown_view l.unknown)) l.number l.low l.high l.fn.steps l.steps

abbrev pub decreases-loop-low : goal.decreases-loop-low
decreases-loop-low l = l.high - l.low
