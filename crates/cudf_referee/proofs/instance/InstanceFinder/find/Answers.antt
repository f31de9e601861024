use Rattle.std.proofs.Common.{sym}
use Rattle.cudf_job.specs.KeyViews.{key_view}
use Rattle.cudf_referee.proofs.FoundLemmas.{of-solution}
use Rattle.cudf_referee.proofs.instance.InstanceFinder.find.Goals as goal

pub returns-in-Solution-clause-found : goal.returns-in-Solution-clause-found
returns-in-Solution-clause-found c = sym (of-solution (key_view c.args.key) c.args.self.now (sym c.in-Solution.ensures.value))
