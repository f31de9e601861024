use Rattle.cudf_problem.proofs.FlagLemmas.{contains-places}
use Rattle.cudf_problem.proofs.solution.Status.from_flags.Goals as goal

pub returns : goal.returns
returns c = contains-places c.args.flags.items
