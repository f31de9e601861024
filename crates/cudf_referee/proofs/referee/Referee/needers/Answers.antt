use Rattle.std.proofs.Common.{ℕ, List, ◌≡◌, true, IfOk, ap, subst}
use Rattle.std.specs.FinSet as set
use Rattle.cudf_index.specs.Satisfaction.{Placed}
use Rattle.cudf_referee.specs.Explanations.{needed_by}
use Rattle.cudf_referee.specs.Working.Needers.{kept_needer}
use Rattle.cudf_referee.proofs.referee.Referee.needers.Goals as goal

pub returns : goal.returns
returns c =
    subst (λ (status : List Placed). IfOk c.needers_of.result (λ needers. (place : ℕ) → set.contains c.args.asked.now place ≡ true → kept_needer place needers ≡ needed_by status place))
    (ap (λ s. s.proposed) c.self.view_is) c.needers_of.ensures
