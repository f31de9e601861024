use Rattle.std.proofs.Common.{None, Some, [], ◌∷◌}
use Rattle.cudf_index.specs.Satisfaction.{numbers_of}
use Rattle.cudf_index.specs.Working.Kept.{Keeps}
use Rattle.cudf_index.proofs.EndLemmas.{least_same, least_none}
use Rattle.cudf_index.proofs.index.member.PackageProvisions.least.Goals as goal

pub returns-in-Some : goal.returns-in-Some
returns-in-Some c =
    let keeps : Keeps c.args.name.now (c.args.self.now ∷ []) (Some c.in-Some.entries.now) = rw c.in-Some.is at c.kept.ensures in
    least_same c.in-Some.entries.now.numbers (numbers_of c.args.name.now (c.args.self.now ∷ [])) keeps.numbers c.least.result c.least.ensures.least

pub returns-in-None : goal.returns-in-None
returns-in-None c =
    let keeps : Keeps c.args.name.now (c.args.self.now ∷ []) None = rw c.in-None.is at c.kept.ensures in
    least_same [] (numbers_of c.args.name.now (c.args.self.now ∷ [])) keeps.numbers None least_none
