use Rattle.std.proofs.Common.{◌++◌, ◌∷◌, [], ap, sym, ◌∙◌, subst}
use Rattle.std.specs.Prelude.{slice_get}
use Rattle.std.proofs.lemmas.List.{append-nil}
use Rattle.cudf_index.specs.Working.Gathering.{given_by, CompletesAt}
use Rattle.cudf_index.specs.Working.Members.{member_view}
use Rattle.cudf_index.proofs.KeptLemmas.{keeps_found}
use Rattle.cudf_index.proofs.index.member.PackageProvisions.new.Goals as goal

pub invariant_of-result : goal.invariant_of-result
invariant_of-result c = (
  λ name.
      let gathered = c.add_package.new.self in
      let entries = c.in_ok-entries.entries.items in
      let p = member_view c.args.member in
      keeps_found name (p ∷ []) gathered.names.keys gathered.rows.items entries
      (λ k. subst (λ rs. CompletesAt (slice_get rs k) (slice_get entries k)) c.deref.ensures.value (c.in_ok-entries.ensures k))
      (c.in_ok-add_package.ensures.rows name ∙ ap (λ row. row ++ given_by name p) (c.new-gathered.ensures.rows name) ∙ sym (append-nil (given_by name p))),
  c.requires,
)
