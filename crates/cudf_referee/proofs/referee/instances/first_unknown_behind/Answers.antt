use Rattle.std.proofs.Common.{◌+◌, length, ap, sym, ◌∙◌, arith}
use Rattle.std.proofs.lemmas.Grind.{common_steps}
use Rattle.cudf_referee.specs.Promises.Pages.{least_search}
use Rattle.cudf_referee.proofs.UnknownLemmas.{digits-positive}
use Rattle.cudf_referee.proofs.referee.instances.first_unknown_behind.Goals as goal

pub returns-in-Package : goal.returns-in-Package
returns-in-Package c = grind (arith, common_steps)

pub returns-in-Solution-clause-fits : goal.returns-in-Solution-clause-fits
returns-in-Solution-clause-fits c = grind (arith, common_steps)

pub returns-in-Solution-clause-place : goal.returns-in-Solution-clause-place
returns-in-Solution-clause-place c = grind (arith, common_steps)

pub returns-in-Solution-clause-price : goal.returns-in-Solution-clause-price
returns-in-Solution-clause-price c = grind (arith, common_steps)

pub returns-in-Solution-clause-grows : goal.returns-in-Solution-clause-grows
returns-in-Solution-clause-grows c =
    omega (arith, c.first_above.ensures.grows, digits-positive (length c.args.unknown.now + 1) (omega arith), ap (λ part. least_search part (length c.args.unknown.now)) (sym c.part.ensures.value ∙ c.in-Solution.is))
