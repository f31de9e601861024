use Rattle.std.proofs.Common.{◌≡◌, ◌||◌, ◌&&◌, true, false, not, nat_lt, arith, ap, sym, ◌∙◌}
use Rattle.std.proofs.lemmas.Bool.Decides.{nat_tests}
use Rattle.cudf_value.specs.Promises.Views.{vpkg_view}
use Rattle.cudf_index.specs.Satisfaction.{is_below_one}
use Rattle.cudf_index.proofs.TakenOffLemmas.{satisfies_own}
use Rattle.cudf_index.proofs.index.Index.satisfies_at.Goals as goal

pub returns-then-own-gt0 : goal.returns-then-own-gt0
returns-then-own-gt0 c =
    let own = c.own-own.result in
    let some : nat_lt 0 own.numbers ≡ true = grind (arith, nat_tests) in
    some ∙ sym (satisfies_own (vpkg_view c.args.vpkg.now) c.args.place c.args.self.now own.numbers own.unversioned c.own-own.ensures.numbers c.own-own.ensures.unversioned
    ∙ ap (λ b. b || (nat_lt 0 own.unversioned && not (is_below_one c.args.vpkg.now.bound))) some)

pub returns-then-own-gt0-2 : goal.returns-then-own-gt0-2
returns-then-own-gt0-2 c =
    let own = c.own-own.result in
    let none : nat_lt 0 own.numbers ≡ false = grind (arith, nat_tests) in
    let some : nat_lt 0 own.unversioned ≡ true = grind (arith, nat_tests) in
    ap not c.is_below_one.ensures
    ∙ sym (satisfies_own (vpkg_view c.args.vpkg.now) c.args.place c.args.self.now own.numbers own.unversioned c.own-own.ensures.numbers c.own-own.ensures.unversioned
    ∙ (λ i. none i || (some i && not (is_below_one c.args.vpkg.now.bound))))

pub returns-else-own-gt0-2 : goal.returns-else-own-gt0-2
returns-else-own-gt0-2 c =
    let own = c.own-own.result in
    let none : nat_lt 0 own.numbers ≡ false = grind (arith, nat_tests) in
    let none_too : nat_lt 0 own.unversioned ≡ false = grind (arith, nat_tests) in
    none_too ∙ sym (satisfies_own (vpkg_view c.args.vpkg.now) c.args.place c.args.self.now own.numbers own.unversioned c.own-own.ensures.numbers c.own-own.ensures.unversioned
    ∙ (λ i. none i || (none_too i && not (is_below_one c.args.vpkg.now.bound))))
