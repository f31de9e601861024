use Rattle.std.proofs.Common.{ap, sym, ◌∙◌, subst, bytes_eq}
use Rattle.std.specs.Prelude.{slice_get}
use Rattle.std.specs.FinSet as set
use Rattle.cudf_index.specs.Satisfaction.{members}
use Rattle.cudf_index.specs.Working.Kept.{Keeps, found}
use Rattle.cudf_index.specs.Working.Gathering.{given_of, row_of, AreFilled, CompletesAt}
use Rattle.cudf_index.specs.Working.Shares.{AreShares}
use Rattle.cudf_index.proofs.KeptLemmas.{keeps_found}
use Rattle.cudf_index.proofs.index.Index.build.Goals as goal

pub invariant_of-result : goal.invariant_of-result
invariant_of-result c =
    let packages = c.args.problem.now.packages in
    let keys = c.in_ok-gathered.gathered.names.keys in
    let rows = c.in_ok-gathered.gathered.rows.items in
    let entries = c.in_ok-entries.entries.items in (
      λ name. (
        subst (λ g. Keeps name (members (set.contains c.in_ok-copy.field-0) packages) (found (λ k. bytes_eq name k.now) g.names.keys entries)) (sym c.in_ok-given.ensures)
            (subst (λ status. Keeps name (members (set.contains status) packages) (found (λ k. bytes_eq name k.now) keys entries)) (sym c.in_ok-copy.ensures)
            (keeps_found name (members (set.contains c.args.status.now) packages) keys rows entries
            (λ k. subst (λ rs. CompletesAt (slice_get rs k) (slice_get entries k)) c.deref.ensures.value (c.in_ok-entries.ensures k)) (c.in_ok-gathered.ensures.rows name))),
        ap (row_of name) c.in_ok-given.ensures ∙ c.in_ok-gathered.ensures.rows name
            ∙ ap (λ status. given_of name (members (set.contains status) packages)) (sym c.in_ok-copy.ensures),
      ),
      subst (λ status. AreShares (members (set.contains status) packages) c.in_ok-shares.shares.items) (sym c.in_ok-copy.ensures) c.in_ok-shares.ensures,
      subst AreFilled (sym c.in_ok-given.ensures) c.in_ok-gathered.ensures.filled,
    )
