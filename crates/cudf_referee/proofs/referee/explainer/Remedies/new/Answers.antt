use Rattle.std.proofs.Common.{◌≡◌, true, ap, ◌∙◌}
use Rattle.std.specs.Prelude.{find, option_map}
use Rattle.std.specs.FinSet as set
use Rattle.cudf_problem.specs.Statuses.{is_initial}
use Rattle.cudf_index.specs.Promises.Members.{outside}
use Rattle.cudf_index.specs.Satisfaction.{members}
use Rattle.cudf_referee.proofs.referee.explainer.Remedies.new.Goals as goal

pub invariant_of-result : goal.invariant_of-result
invariant_of-result c =
    let problem = c.args.problem.now in
    let was_is : set.contains c.in_ok-was_installed.was_installed ≡ is_initial problem = λ i place. c.in_ok-was_installed.ensures.places place i in (
      c.in_ok-others.ensures ∙ ap (λ holds. outside holds problem.packages) was_is,
      c.in_ok-given.ensures ∙ ap (λ holds. members holds problem.packages) was_is,
      c.first_held-first_installed.ensures ∙ ap (λ holds. option_map (λ p. p.0) (find (λ _. true) (members holds problem.packages))) was_is,
    )
