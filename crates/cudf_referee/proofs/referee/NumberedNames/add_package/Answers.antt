use Rattle.std.proofs.Common.{ap, sym, ◌∙◌}
use Rattle.std.specs.Prelude.{filter_map}
use Rattle.cudf_problem.specs.Promises.Views.{package_view}
use Rattle.cudf_index.specs.Satisfaction.{entry_pair}
use Rattle.cudf_referee.specs.Working.Before.{kept_greatest, with_entries}
use Rattle.cudf_referee.proofs.BeforeLemmas.{pairs_first}
use Rattle.cudf_referee.proofs.referee.NumberedNames.add_package.Goals as goal

pub returns : goal.returns
returns c = λ f.
    let p = package_view c.args.«package».now in
    c.in_ok-add_entries.ensures f
    ∙ ap (with_entries f p.provides) (c.in_ok-add.ensures f)
    ∙ sym (pairs_first f (p.name, p.version) (filter_map entry_pair p.provides) (kept_greatest f c.args.self.now))
