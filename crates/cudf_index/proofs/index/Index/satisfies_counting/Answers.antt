use Rattle.std.proofs.Common.{◌≡◌, ℕ, Option, None, Some, true, refl, sym, ap, ◌∙◌, length, arith}
use Rattle.std.specs.Prelude.{if◌then◌else◌}
use Rattle.std.specs.List.{count_by}
use Rattle.std.specs.Option.{is_none}
use Rattle.std.proofs.lemmas.Grind.{common_steps}
use Rattle.cudf_value.specs.declared.vpkg.Relop.{Relop}
use Rattle.cudf_value.specs.Promises.Views.{vpkg_view}
use Rattle.cudf_value.specs.Vpkgs.{meets}
use Rattle.cudf_index.specs.Satisfaction.{numbers_of, is_below_one, satisfies}
use Rattle.cudf_index.specs.Working.Kept.{Keeps}
use Rattle.cudf_index.specs.Promises.Prices.{digits}
use Rattle.cudf_index.proofs.EndLemmas.{length_same}
use Rattle.cudf_index.proofs.TreeLemmas.{given-bare}
use Rattle.cudf_index.proofs.TakenOffLemmas.{kept_exceeds, none_kept, satisfies-counted}
use Rattle.cudf_index.proofs.index.Index.satisfies_counting.Goals as goal

-- a vpkg without a bound
unbounded : (o : Option (Relop × ℕ)) → is_none o ≡ true → o ≡ None
unbounded None h = refl
unbounded (Some bound) h = absurd cc

pub returns-then-is_none-clause-answer : goal.returns-then-is_none-clause-answer
returns-then-is_none-clause-answer c =
    let v = vpkg_view c.args.vpkg.now in
    let none : is_none v.bound ≡ true = grind (arith, common_steps) in
    c.gives.ensures.answer ∙ given-bare v.name c.args.self.now
    ∙ ap (λ bound. satisfies c.args.self.now (record { name = v.name; bound = bound })) (sym (unbounded v.bound none))

pub returns-in-Some-clause-answer : goal.returns-in-Some-clause-answer
returns-in-Some-clause-answer c =
    let v = vpkg_view c.args.vpkg.now in
    let keeps : Keeps v.name c.args.self.now (Some c.in-Some.entries.now) = rw c.in-Some.is at c.look_up.ensures.kept in
    c.any.ensures.answer
    ∙ kept_exceeds v.name c.args.self.now (Some c.in-Some.entries.now) keeps 0 0 (count_by (meets v.bound) c.in-Some.entries.now.numbers) (if is_below_one v.bound then 0 else c.in-Some.entries.now.unversioned) v.bound refl refl
    ∙ sym (satisfies-counted c.args.self.now v)

pub returns-in-None-clause-answer : goal.returns-in-None-clause-answer
returns-in-None-clause-answer c =
    let v = vpkg_view c.args.vpkg.now in
    let keeps : Keeps v.name c.args.self.now None = rw c.in-None.is at c.look_up.ensures.kept in
    sym (none_kept v c.args.self.now keeps)

pub returns-in-Some-clause-price : goal.returns-in-Some-clause-price
returns-in-Some-clause-price c =
    let v = vpkg_view c.args.vpkg.now in
    let keeps : Keeps v.name c.args.self.now (Some c.in-Some.entries.now) = rw c.in-Some.is at c.look_up.ensures.kept in
    let same : digits (length c.in-Some.entries.now.numbers) ≡ digits (length (numbers_of v.name c.args.self.now)) = ap digits (length_same c.in-Some.entries.now.numbers (numbers_of v.name c.args.self.now) keeps.numbers) in
    omega (arith, same, c.any.ensures.price, c.look_up.ensures.price)
