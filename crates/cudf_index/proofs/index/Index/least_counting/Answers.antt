use Rattle.std.proofs.Common.{None, Some, []}
use Rattle.cudf_index.specs.Satisfaction.{numbers_of}
use Rattle.cudf_index.specs.Working.Kept.{Keeps}
use Rattle.cudf_index.proofs.EndLemmas.{least_same, least_none}
use Rattle.cudf_index.proofs.index.Index.least_counting.Goals as goal

pub returns-in-Some-clause-least : goal.returns-in-Some-clause-least
returns-in-Some-clause-least c =
    let keeps : Keeps c.args.name.now c.args.self.now (Some c.in-Some.entries.now) = rw c.in-Some.is at c.look_up.ensures.kept in
    least_same c.in-Some.entries.now.numbers (numbers_of c.args.name.now c.args.self.now) keeps.numbers c.least.result c.least.ensures.least

pub returns-in-None-clause-least : goal.returns-in-None-clause-least
returns-in-None-clause-least c =
    let keeps : Keeps c.args.name.now c.args.self.now None = rw c.in-None.is at c.look_up.ensures.kept in
    least_same [] (numbers_of c.args.name.now c.args.self.now) keeps.numbers None least_none
