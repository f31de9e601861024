use Rattle.std.proofs.Common.{lit<}
use Rattle.cudf_job.proofs.KeyTextLemmas.{cut_first}
use Rattle.cudf_job.proofs.key.reading.split_at_point.Goals as goal

pub returns-clause-first : goal.returns-clause-first
returns-clause-first c = λ first rest.
    cut_first c.args.text.now first rest c.split_once.result (c.split_once.ensures.byte (lit< tt) (λ w o h. h))
