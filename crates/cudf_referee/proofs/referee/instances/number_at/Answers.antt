use Rattle.cudf_referee.proofs.UnknownLemmas.{number_of}
use Rattle.cudf_referee.proofs.referee.instances.number_at.Goals as goal

pub returns-clause-value : goal.returns-clause-value
returns-clause-value c = λ d. number_of c.args.unknown.now c.args.place _ d c.requires
