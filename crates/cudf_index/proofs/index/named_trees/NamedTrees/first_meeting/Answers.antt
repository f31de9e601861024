use Rattle.std.proofs.Common.{Some, None, ap, sym, ◌∙◌}
use Rattle.cudf_index.specs.Working.FirstPlaces.{first_place_of}
use Rattle.cudf_index.specs.Working.Gathering.{row_items}
use Rattle.cudf_index.proofs.FoundLemmas.{row_found}
use Rattle.cudf_index.proofs.index.named_trees.NamedTrees.first_meeting.Goals as goal

pub returns-in-Some : goal.returns-in-Some
returns-in-Some c =
    let gathered = c.args.self.now.gathered in
    c.first.ensures ∙ ap (λ o. first_place_of c.args.except c.args.vpkg.now.bound (row_items o)) c.in-Some.ensures
    ∙ ap (first_place_of c.args.except c.args.vpkg.now.bound) (row_found c.args.vpkg.now.name.now gathered.names.keys gathered.rows.items (Some c.in_ok-number.number) (sym c.in_ok-number.was ∙ c.get_index_of.ensures.index))

pub returns-in-None : goal.returns-in-None
returns-in-None c =
    let gathered = c.args.self.now.gathered in
    c.first_of.ensures ∙ ap (first_place_of c.args.except c.args.vpkg.now.bound) c.row.ensures
    ∙ ap (first_place_of c.args.except c.args.vpkg.now.bound) (row_found c.args.vpkg.now.name.now gathered.names.keys gathered.rows.items (Some c.in_ok-number.number) (sym c.in_ok-number.was ∙ c.get_index_of.ensures.index))

pub returns-in_err-number : goal.returns-in_err-number
returns-in_err-number c =
    let gathered = c.args.self.now.gathered in
    c.from_residual.ensures
    ∙ ap (first_place_of c.args.except c.args.vpkg.now.bound) (row_found c.args.vpkg.now.name.now gathered.names.keys gathered.rows.items None (sym c.in_err-number.was ∙ c.get_index_of.ensures.index))
