use Rattle.std.proofs.Common.{map, take}
use Rattle.cudf_problem.specs.Promises.Views.{unknown_view}
use Rattle.cudf_document.specs.Working.InstalledFlags.{IsPlaced}
use Rattle.cudf_document.proofs.solution.solution_of.Given as goal

abbrev pub invariant-loop-stanza : goal.invariant-loop-stanza
invariant-loop-stanza l = IsPlaced l.problem (map unknown_view (take l.stanza-index l.stanza-items)) l.placed
