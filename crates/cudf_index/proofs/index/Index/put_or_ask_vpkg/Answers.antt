use Rattle.std.proofs.Common.{Some, None, ap, sym, ◌∙◌}
use Rattle.std.specs.FinSet as set
use Rattle.cudf_value.specs.Promises.Views.{vpkg_view}
use Rattle.cudf_index.specs.Satisfaction.{members, meets_alone}
use Rattle.cudf_index.specs.Working.Gathering.{row_items}
use Rattle.cudf_index.specs.Working.ProvisionTest.{with_all}
use Rattle.cudf_index.specs.declared.index.named_trees.ProvisionTest.TheVariants.{Meeting}
use Rattle.cudf_index.proofs.ClauseLemmas.{alone_passes, row_adds}
use Rattle.cudf_index.proofs.FoundLemmas.{row_found}
use Rattle.cudf_index.proofs.QuestionLemmas.{adds_asks, question_asks, or_true}
use Rattle.cudf_index.proofs.index.Index.put_or_ask_vpkg.Goals as goal

pub returns-in_default : goal.returns-in_default
returns-in_default c =
    let v = vpkg_view c.args.vpkg.now in
    let gathered = c.self.inside.given.gathered in
    let old = c.args.places.now.items in
    adds_asks (meets_alone v) c.args.self.now old old c.args.questions.now.items
    (row_adds v (members (set.contains c.self.inside.status) c.self.inside.problem.now.packages) c.args.self.now _ old old c.self.view_is (c.self.invariant.0 v.name).1
    (ap (with_all (Meeting v.bound) old) (row_found v.name gathered.names.keys gathered.rows.items None (sym c.in_default.is ∙ c.get_index_of.ensures.index))))

pub returns-in_default-tree : goal.returns-in_default-tree
returns-in_default-tree c =
    let v = vpkg_view c.args.vpkg.now in
    let gathered = c.self.inside.given.gathered in
    let old = c.args.places.now.items in
    adds_asks (meets_alone v) c.args.self.now old c.put_each.new.places.items c.args.questions.now.items
    (row_adds v (members (set.contains c.self.inside.status) c.self.inside.problem.now.packages) c.args.self.now _ old c.put_each.new.places.items c.self.view_is (c.self.invariant.0 v.name).1
    (c.in_ok-put_each.ensures ∙ ap (with_all (Meeting v.bound) old) (c.row.ensures ∙ row_found v.name gathered.names.keys gathered.rows.items (Some c.in-Some.number) (sym c.in-Some.is ∙ c.get_index_of.ensures.index))))

pub returns-then-satisfies_at : goal.returns-then-satisfies_at
returns-then-satisfies_at c = or_true _ _ (sym (alone_passes (vpkg_view c.args.vpkg.now) c.args.own c.args.self.now) ∙ sym c.satisfies_at.ensures ∙ c.if-satisfies_at.true)

pub returns-then-is_empty : goal.returns-then-is_empty
returns-then-is_empty c =
    let v = vpkg_view c.args.vpkg.now in
    let gathered = c.self.inside.given.gathered in
    let old = c.args.places.now.items in
    adds_asks (meets_alone v) c.args.self.now old c.all.new.places.items c.args.questions.now.items
    (row_adds v (members (set.contains c.self.inside.status) c.self.inside.problem.now.packages) c.args.self.now _ old c.all.new.places.items c.self.view_is (c.self.invariant.0 v.name).1
    (c.in_ok-all.ensures ∙ ap (λ o. with_all (Meeting v.bound) old (row_items o)) c.in-Some-tree.ensures
    ∙ ap (with_all (Meeting v.bound) old) (row_found v.name gathered.names.keys gathered.rows.items (Some c.in-Some.number) (sym c.in-Some.is ∙ c.get_index_of.ensures.index))))

pub returns : goal.returns
returns c = question_asks c.args.vpkg.now c.args.self.now c.args.places.now.items c.args.questions.now.items c.push.new.self.items c.in_ok-push.ensures.items
