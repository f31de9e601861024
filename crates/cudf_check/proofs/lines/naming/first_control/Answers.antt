use Rattle.std.proofs.Common.{◌++◌, ◌<◌, length, rules, arith, ap, sym, ◌∙◌}
use Rattle.std.specs.Char.{encode_utf8, is_control}
use Rattle.std.proofs.lemmas.Fn.{always_returns_same}
use Rattle.cudf_check.proofs.ShownLemmas.{shown-plain, shown-found, is_found, is_inside, control_below}
use Rattle.cudf_check.proofs.lines.naming.first_control.Goals as goal

pub returns-in_default-clause-shown : goal.returns-in_default-clause-shown
returns-in_default-clause-shown c = shown-plain c.args.text.now c.utf8.text (c.in_default.ensures.cases is_control (always_returns_same _ _ _ (λ a r f' k. search rules)))

pub overflow_cast-result : goal.overflow_cast-result
overflow_cast-result c =
    let at = c.in-Some.ensures.cases in
    let first = at.1 is_control (always_returns_same _ _ _ (λ a r f' k. search rules)) in
    let below : c.in-Some-next.control < 256 = control_below c.in-Some-next.control (is_found c.args.text.now c.next.new.self.rest.now c.in-Some.start at.0 c.in-Some-next.control first.1
    (sym c.split_at.ensures.back ∙ sym c.chars-chars.ensures.rest ∙ c.in-Some-next.ensures.steps.0)) in
    omega (arith, below)

pub returns-in-Some-next-clause-shown : goal.returns-in-Some-next-clause-shown
returns-in-Some-next-clause-shown c =
    let at = c.in-Some.ensures.cases in
    let first = at.1 is_control (always_returns_same _ _ _ (λ a r f' k. search rules)) in
    shown-found c.args.text.now _ _ _ _ at.0 _ c.utf8.text at.3 first.0 first.1 c.split_at.ensures.front c.split_at.ensures.back
    (sym c.chars-chars.ensures.rest ∙ c.in-Some-next.ensures.steps.0 ∙ ap (λ t. encode_utf8 c.in-Some-next.control ++ t) (sym c.as_str.ensures))

pub returns-in-None-clause-shown : goal.returns-in-None-clause-shown
returns-in-None-clause-shown c =
    let at = c.in-Some.ensures.cases in
    let first = at.1 is_control (always_returns_same _ _ _ (λ a r f' k. search rules)) in
    absurd (is_inside c.args.text.now _ at.0 first.1 (ap length (sym c.split_at.ensures.back ∙ sym c.chars-chars.ensures.rest) ∙ c.in-None.ensures.steps.0.0))
