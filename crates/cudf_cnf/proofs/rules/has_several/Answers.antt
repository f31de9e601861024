use Rattle.std.proofs.Common.{sym}
use Rattle.cudf_index.specs.Satisfaction.{numbers_of}
use Rattle.cudf_referee.proofs.NumberLemmas.{many_by_ends}
use Rattle.cudf_cnf.proofs.rules.has_several.Goals as goal

pub returns-in-Some-greatest : goal.returns-in-Some-greatest
returns-in-Some-greatest c =
    sym (many_by_ends (numbers_of c.args.name.now c.args.all.now) c.in-Some.least c.in-Some-greatest.greatest c.in-Some.ensures.among c.in-Some.ensures.bound c.in-Some-greatest.ensures.among c.in-Some-greatest.ensures.bound)
