use Rattle.std.proofs.Common.{None, Some, []}
use Rattle.cudf_index.specs.Satisfaction.{numbers_of}
use Rattle.cudf_index.specs.Working.Kept.{Keeps}
use Rattle.cudf_index.proofs.EndLemmas.{greatest_same, greatest_none}
use Rattle.cudf_index.proofs.index.Index.greatest_counting.Goals as goal

pub returns-in-Some-clause-greatest : goal.returns-in-Some-clause-greatest
returns-in-Some-clause-greatest c =
    let keeps : Keeps c.args.name.now c.args.self.now (Some c.in-Some.entries.now) = rw c.in-Some.is at c.look_up.ensures.kept in
    greatest_same c.in-Some.entries.now.numbers (numbers_of c.args.name.now c.args.self.now) keeps.numbers c.greatest.result c.greatest.ensures.greatest

pub returns-in-None-clause-greatest : goal.returns-in-None-clause-greatest
returns-in-None-clause-greatest c =
    let keeps : Keeps c.args.name.now c.args.self.now None = rw c.in-None.is at c.look_up.ensures.kept in
    greatest_same [] (numbers_of c.args.name.now c.args.self.now) keeps.numbers None greatest_none
