use Rattle.std.proofs.Common.{refl, ap, sym, ◌∙◌, subst}
use Rattle.cudf_index.specs.Promises.Members.{IsGreatest}
use Rattle.cudf_index.specs.Satisfaction.{numbers_of}
use Rattle.cudf_referee.specs.Violations.{are_lower}
use Rattle.cudf_referee.proofs.NumberLemmas.{lower_by_ends, lower-none}
use Rattle.cudf_referee.proofs.rules.has_lower.Goals as goal

pub returns-in-Some-Some-clause-answer : goal.returns-in-Some-Some-clause-answer
returns-in-Some-Some-clause-answer c = λ before is.
    let least = c.in-Some-Some.ensures.least in
    let greatest = subst (IsGreatest before) c.in-Some-Some.is-1 is in
    sym (lower_by_ends before (numbers_of c.args.name.now c.args.now.now.status) c.in-Some-Some.least c.in-Some-Some.greatest least.among least.bound greatest.among greatest.bound)

pub returns-in_default-clause-answer : goal.returns-in_default-clause-answer
returns-in_default-clause-answer c = λ before is.
    let numbers = numbers_of c.args.name.now c.args.now.now.status in
    let none = (subst (IsGreatest before) c.in_default.is-1 is).none.0 refl in
    sym (ap (λ before. are_lower before numbers) none ∙ lower-none numbers)
