use Rattle.std.proofs.Common.{subst}
use Rattle.std.specs.Prelude.{All}
use Rattle.cudf_job.specs.Promises.Keys.{IsWritable}
use Rattle.cudf_referee.specs.Proposals.{Proposal}
use Rattle.cudf_referee.specs.Violations.{listing}
use Rattle.cudf_referee.proofs.WritableLemmas.{listing_written}
use Rattle.cudf_referee.proofs.referee.Referee.instances.Goals as goal

pub returns-clause-written : goal.returns-clause-written
returns-clause-written c =
    subst (λ (s : Proposal). All (λ i. IsWritable i.key) (listing s)) c.self.view_is (listing_written _ c.self.invariant.0.ascends c.self.invariant.3)
