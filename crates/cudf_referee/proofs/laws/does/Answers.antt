use Rattle.cudf_referee.proofs.RemedyLemmas.{was_installed_was, would_do_does}
use Rattle.cudf_referee.proofs.laws.does.Goals as goal

pub returns-clause-would_do : goal.returns-clause-would_do
returns-clause-would_do c = would_do_does

pub returns-clause-was_installed : goal.returns-clause-was_installed
returns-clause-was_installed c = was_installed_was
