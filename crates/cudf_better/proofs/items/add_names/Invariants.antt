use Rattle.cudf_better.proofs.NamesLemmas.{Added}
use Rattle.cudf_better.proofs.items.add_names.Given as goal

abbrev pub invariant-loop-index : goal.invariant-loop-index
invariant-loop-index l = Added l.source.problem.now l.count l.index l.met l.initial.items l.items
