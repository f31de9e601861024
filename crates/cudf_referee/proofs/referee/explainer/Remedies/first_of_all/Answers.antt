use Rattle.std.proofs.Common.{◌<◌, length, arith}
use Rattle.std.proofs.lemmas.Grind.{common_steps}
use Rattle.cudf_referee.proofs.RemedyLemmas.{some_pass}
use Rattle.cudf_referee.proofs.referee.explainer.Remedies.first_of_all.Goals as goal

pub returns-else-is_empty : goal.returns-else-is_empty
returns-else-is_empty c =
    let some : 0 < length c.args.self.now.packages = grind (arith, common_steps) in
    some_pass c.args.self.now.packages some
