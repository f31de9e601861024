use Rattle.std.proofs.Common.{◌≡◌, None, Some, sym, ap, length, arith}
use Rattle.cudf_value.specs.Promises.Views.{vpkg_view}
use Rattle.cudf_index.specs.Satisfaction.{numbers_of}
use Rattle.cudf_index.specs.Working.Kept.{Keeps}
use Rattle.cudf_index.specs.Promises.Prices.{digits}
use Rattle.cudf_index.proofs.EndLemmas.{length_same}
use Rattle.cudf_index.proofs.TakenOffLemmas.{none_kept, unsatisfied_without}
use Rattle.cudf_index.proofs.index.Index.satisfies_without_counting.Goals as goal

pub returns-in-None-clause-answer : goal.returns-in-None-clause-answer
returns-in-None-clause-answer c =
    let v = vpkg_view c.args.vpkg.now in
    let keeps : Keeps v.name c.args.self.now None = rw c.in-None.is at c.look_up.ensures.kept in
    sym (unsatisfied_without c.args.self.now v c.args.place (none_kept v c.args.self.now keeps))

pub returns-else-eq-clause-price : goal.returns-else-eq-clause-price
returns-else-eq-clause-price c =
    let v = vpkg_view c.args.vpkg.now in
    let keeps : Keeps v.name c.args.self.now (Some c.in-Some.entries.now) = rw c.in-Some.is at c.look_up.ensures.kept in
    let same : digits (length c.in-Some.entries.now.numbers) ≡ digits (length (numbers_of v.name c.args.self.now)) = ap digits (length_same c.in-Some.entries.now.numbers (numbers_of v.name c.args.self.now) keeps.numbers) in
    omega (arith, same, c.meet_without.ensures.price, c.look_up.ensures.price)
