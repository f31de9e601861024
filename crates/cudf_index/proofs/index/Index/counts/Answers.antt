use Rattle.std.proofs.Common.{ℕ, List, Bor, subst, bytes_eq}
use Rattle.std.specs.Prelude.{slice_get}
use Rattle.std.specs.FinSet as set
use Rattle.cudf_index.specs.Working.Gathering.{BothAt}
use Rattle.cudf_index.specs.Working.Givers.{Counted, CountsOf, runs}
use Rattle.cudf_index.specs.Working.Kept.{found}
use Rattle.cudf_index.proofs.KeptLemmas.{both_found}
use Rattle.cudf_index.proofs.RunLemmas.{counts_row}
use Rattle.cudf_index.proofs.index.Index.counts.Goals as goal

pub invariant_of-result : goal.invariant_of-result
invariant_of-result c = λ name.
    let test = λ (k : Bor (List ℕ)). bytes_eq name k.now in
    let keys = c.self.inside.given.gathered.names.keys in
    let givers = c.in_ok-givers_of.field-0.items in
    subst (λ status. CountsOf name status (found test keys givers)) c.self.view_is
    (counts_row name (set.contains c.self.inside.status) c.self.inside.problem.now.packages (found test keys c.self.inside.given.gathered.rows.items) (found test keys givers)
    (both_found (λ row. Counted (runs row)) test keys c.self.inside.given.gathered.rows.items givers
    (λ k. subst (λ rows. BothAt (λ row. Counted (runs row)) (slice_get rows k) (slice_get givers k)) c.deref.ensures.value (c.in_ok-givers_of.ensures k)))
    (c.self.invariant.0 name).1)
