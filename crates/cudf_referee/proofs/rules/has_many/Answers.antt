use Rattle.std.proofs.Common.{sym, arith}
use Rattle.cudf_index.specs.Satisfaction.{numbers_of}
use Rattle.cudf_referee.proofs.NumberLemmas.{many_by_ends}
use Rattle.cudf_referee.proofs.rules.has_many.Goals as goal

pub returns-in-Some-Some-clause-answer : goal.returns-in-Some-Some-clause-answer
returns-in-Some-Some-clause-answer c =
    let least = c.in-Some-Some.ensures.least in
    let greatest = rw c.in-Some-Some.ensures.status at c.in-Some-Some.ensures'.greatest in
    sym (many_by_ends (numbers_of c.args.name.now c.args.now.now.status) c.in-Some-Some.least c.in-Some-Some.greatest
    least.among least.bound greatest.among greatest.bound)

pub returns-in-Some-Some-clause-grows : goal.returns-in-Some-Some-clause-grows
returns-in-Some-Some-clause-grows c = omega (arith, c.least_counted.ensures.grows, c.greatest_counted.ensures.grows)
