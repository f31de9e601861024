use Rattle.std.proofs.Common.{◌++◌, List, ap, sym, ◌∙◌}
use Rattle.cudf_job.specs.declared.criteria.Count.{Count}
use Rattle.cudf_cnf.proofs.PlaceLemmas.{when}
use Rattle.cudf_better.specs.Better.{Item, items}
use Rattle.cudf_better.proofs.NamesLemmas.{changed_items, new_items, outdated_items, removed_items}
use Rattle.cudf_better.proofs.encoding.add_items.Goals as goal

pub returns-in-Removed : goal.returns-in-Removed
returns-in-Removed c =
    let problem = c.args.source.now.problem.now in
    when c.add_names.result c.add_names.ensures (λ e. e ∙ ap (λ (xs : List Item). c.args.made.now ++ xs) (removed_items problem ∙ ap (items problem) (sym c.in-Removed.is)))

pub returns-in-New : goal.returns-in-New
returns-in-New c =
    let problem = c.args.source.now.problem.now in
    when c.add_names-in-New.result c.add_names-in-New.ensures (λ e. e ∙ ap (λ (xs : List Item). c.args.made.now ++ xs) (new_items problem ∙ ap (items problem) (sym c.in-New.is)))

pub returns-in-Changed : goal.returns-in-Changed
returns-in-Changed c =
    let problem = c.args.source.now.problem.now in
    when c.add_names-in-Changed.result c.add_names-in-Changed.ensures (λ e. e ∙ ap (λ (xs : List Item). c.args.made.now ++ xs) (changed_items problem ∙ ap (items problem) (sym c.in-Changed.is)))

pub returns-in-NotUpToDate : goal.returns-in-NotUpToDate
returns-in-NotUpToDate c =
    let problem = c.args.source.now.problem.now in
    when c.add_names-in-NotUpToDate.result c.add_names-in-NotUpToDate.ensures (λ e. e ∙ ap (λ (xs : List Item). c.args.made.now ++ xs) (outdated_items problem ∙ ap (items problem) (sym c.in-NotUpToDate.is)))

pub returns-in-UnsatRecommends : goal.returns-in-UnsatRecommends
returns-in-UnsatRecommends c = when c.add_recommended.result c.add_recommended.ensures (λ e. e ∙ ap (λ (n : Count). c.args.made.now ++ items c.args.source.now.problem.now n) (sym c.in-UnsatRecommends.is))

pub returns-in-Touched : goal.returns-in-Touched
returns-in-Touched c = when c.add_touched.result c.add_touched.ensures (λ e. e ∙ ap (λ (n : Count). c.args.made.now ++ items c.args.source.now.problem.now n) (sym c.in-Touched.is))
