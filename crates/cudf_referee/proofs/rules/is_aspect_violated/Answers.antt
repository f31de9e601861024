use Rattle.std.proofs.Common.{◌≡◌, ◌-◌, List, Some, ap, sym, ◌∙◌}
use Rattle.cudf_value.specs.Promises.Views.{vpkg_view}
use Rattle.cudf_index.specs.Satisfaction.{Placed, numbers_of}
use Rattle.cudf_job.specs.declared.key.Aspect.TheVariants.{Lower}
use Rattle.cudf_job.specs.KeyViews.{key_view}
use Rattle.cudf_referee.specs.Violations.{are_lower, is_aspect_violated}
use Rattle.cudf_referee.proofs.BeforeLemmas.{greatest-at}
use Rattle.cudf_referee.proofs.rules.is_aspect_violated.Goals as goal

pub returns-in-Some-Lower-clause-answer : goal.returns-in-Some-Lower-clause-answer
returns-in-Some-Lower-clause-answer c = λ s proposed before entry.
    let v = vpkg_view c.args.vpkg.now in
    let place = (key_view c.args.key).place in
    let greatest = greatest-at s.initial s.problem.request.upgrade c.args.before.now (place - 1) v _ before entry (rw c.place.ensures.value at c.number_before-greatest.ensures.number) in
    let lower : c.in-Some-Lower.field-0 ≡ Lower = c.in-Some-Lower.field-0-is in
    let aspect : (key_view c.args.key).aspect ≡ Some Lower = sym c.aspect.ensures ∙ c.in-Some-Lower.is ∙ ap Some lower in
    c.has_lower.ensures.answer (numbers_of v.name s.initial) greatest
    ∙ ap (λ (status : List Placed). are_lower (numbers_of v.name s.initial) (numbers_of v.name status)) (sym proposed)
    ∙ ap (is_aspect_violated s v) (sym aspect)
