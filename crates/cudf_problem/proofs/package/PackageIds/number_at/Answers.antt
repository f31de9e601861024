use Rattle.cudf_problem.specs.Working.Numbers.{texts, other_index}
use Rattle.std.proofs.Common.{arith, length, ap}
use Rattle.std.proofs.lemmas.List.{length-map}
use Rattle.cudf_problem.specs.Working.Numbers.{pair_id}
use Rattle.cudf_problem.proofs.NumberLemmas.{number_of_pair}
use Rattle.cudf_problem.proofs.package.PackageIds.number_at.Goals as goal

pub returns : goal.returns
returns c = λ d.
    let names = texts c.self.inside.names.keys in
    let pairs = c.self.inside.pairs.items in
    number_of_pair names pairs c.self.inside.firsts.items (other_index c.self.inside.others) c.self.invariant c.args.self.now c.args.index c.index.result.now d
    c.self.view_is (omega (arith, c.requires, ap length c.self.view_is, length-map pairs (pair_id names))) c.index.ensures
