use Rattle.std.proofs.Common.{Some, None, ap, sym, ◌∙◌}
use Rattle.std.proofs.lemmas.Result.{IfOk-equal}
use Rattle.cudf_index.specs.Working.Gathering.{row_items}
use Rattle.cudf_index.specs.Working.ProvisionTest.{with_all}
use Rattle.cudf_index.proofs.FoundLemmas.{row_found}
use Rattle.cudf_index.proofs.index.named_trees.NamedTrees.all.Goals as goal

pub returns-in_default : goal.returns-in_default
returns-in_default c =
    let gathered = c.args.self.now.gathered in
    ap (with_all c.args.wanted c.args.places.now.items) (row_found c.args.name.now gathered.names.keys gathered.rows.items None (sym c.in_default.is ∙ c.get_index_of.ensures.index))

pub returns-in-Some-tree : goal.returns-in-Some-tree
returns-in-Some-tree c =
    let gathered = c.args.self.now.gathered in
    IfOk-equal c.all.result _ _ _ c.all.ensures
    (ap (λ o. with_all c.args.wanted c.args.places.now.items (row_items o)) c.in-Some-tree.ensures
    ∙ ap (with_all c.args.wanted c.args.places.now.items) (row_found c.args.name.now gathered.names.keys gathered.rows.items (Some c.in-Some.number) (sym c.in-Some.is ∙ c.get_index_of.ensures.index)))

pub returns-in-None : goal.returns-in-None
returns-in-None c =
    let gathered = c.args.self.now.gathered in
    IfOk-equal c.put_each.result _ _ _ c.put_each.ensures
    (ap (with_all c.args.wanted c.args.places.now.items) c.row.ensures
    ∙ ap (with_all c.args.wanted c.args.places.now.items) (row_found c.args.name.now gathered.names.keys gathered.rows.items (Some c.in-Some.number) (sym c.in-Some.is ∙ c.get_index_of.ensures.index)))
