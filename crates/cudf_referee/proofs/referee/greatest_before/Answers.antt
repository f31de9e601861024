use Rattle.std.proofs.Common.{◌++◌, map, ap, sym, ◌∙◌}
use Rattle.std.proofs.lemmas.List.{append-nil}
use Rattle.cudf_problem.specs.Statuses.{is_initial}
use Rattle.cudf_index.specs.Satisfaction.{members}
use Rattle.cudf_referee.specs.Working.Before.{greatest_before}
use Rattle.cudf_referee.proofs.BeforeLemmas.{all-greatest}
use Rattle.cudf_referee.proofs.referee.greatest_before.Goals as goal

pub returns : goal.returns
returns c =
    let status = members (is_initial c.args.problem.now) c.args.problem.now.packages in
    all-greatest status c.args.problem.now.request.upgrade c.loop-entry.before.items
    (sym (append-nil c.loop-entry.before.items) ∙ ap (λ vs. c.loop-entry.before.items ++ map (greatest_before status) vs) (sym c.in-None.ensures.steps.0) ∙ c.loop-entry.invariant)
