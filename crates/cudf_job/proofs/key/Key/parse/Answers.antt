use Rattle.std.proofs.Common.{sym}
use Rattle.cudf_job.specs.Keys.{PlainKey, is_key}
use Rattle.cudf_job.proofs.KeyTextLemmas.{part_first, part_and_rest, rule_first, rule_and_rest, printed_if, kept_if, none_isnt_some, text_of}
use Rattle.cudf_job.proofs.key.Key.parse.Goals as goal

pub returns-in_err-part-clause-exact : goal.returns-in_err-part-clause-exact
returns-in_err-part-clause-exact c = λ key writable same. absurd (part_first key c.args.text.now writable same c.in_err-part.ensures.first)

pub returns-in_err-rule-clause-exact : goal.returns-in_err-rule-clause-exact
returns-in_err-rule-clause-exact c = λ key writable same.
    let front = part_and_rest key c.args.text.now c.in_ok-part.part.now c.in_ok-part.rest.now writable same c.in_ok-part.ensures.first in
    absurd (rule_first key c.in_ok-part.rest.now front.1 c.in_err-rule.ensures.first)

pub returns-in_err-place-clause-exact : goal.returns-in_err-place-clause-exact
returns-in_err-place-clause-exact c = λ key writable same.
    let front = part_and_rest key c.args.text.now c.in_ok-part.part.now c.in_ok-part.rest.now writable same c.in_ok-part.ensures.first in
    let inner = rule_and_rest key c.in_ok-part.rest.now c.in_ok-rule.rule.now c.in_ok-rule.rest.now front.1 c.in_ok-rule.ensures.first in
    absurd (none_isnt_some (key.place, key.aspect) (c.in_err-place.ensures.exact key.place key.aspect writable.place (sym inner.1)))

pub returns-in_err-parse-clause-exact : goal.returns-in_err-parse-clause-exact
returns-in_err-parse-clause-exact c = λ key writable same.
    let front = part_and_rest key c.args.text.now c.in_ok-part.part.now c.in_ok-part.rest.now writable same c.in_ok-part.ensures.first in
    absurd (none_isnt_some key.part (c.in_err-parse.ensures.exact key.part writable.number (sym front.0)))

pub returns-in_err-parse-2-clause-exact : goal.returns-in_err-parse-2-clause-exact
returns-in_err-parse-2-clause-exact c = λ key writable same.
    let front = part_and_rest key c.args.text.now c.in_ok-part.part.now c.in_ok-part.rest.now writable same c.in_ok-part.ensures.first in
    let inner = rule_and_rest key c.in_ok-part.rest.now c.in_ok-rule.rule.now c.in_ok-rule.rest.now front.1 c.in_ok-rule.ensures.first in
    absurd (none_isnt_some key.rule (c.in_err-parse-2.ensures.exact key.rule (sym inner.0)))

pub returns-clause-printed : goal.returns-clause-printed
returns-clause-printed c =
    let key : PlainKey = record { part = c.in_ok-parse.field-0; rule = c.in_ok-parse-2.field-0; place = c.in_ok-place.place; aspect = c.in_ok-place.aspect } in
    printed_if (is_key key.part key.rule key.place key.aspect) c.args.text.now c.of_parts.result key c.of_parts.ensures
    (text_of key c.args.text.now c.in_ok-part.part.now c.in_ok-part.rest.now c.in_ok-rule.rule.now c.in_ok-rule.rest.now
    c.in_ok-part.ensures.joined c.in_ok-rule.ensures.joined c.in_ok-parse.ensures.printed c.in_ok-parse-2.ensures.printed c.in_ok-place.ensures.printed)

pub returns-clause-exact : goal.returns-clause-exact
returns-clause-exact c = λ key writable same.
    let front = part_and_rest key c.args.text.now c.in_ok-part.part.now c.in_ok-part.rest.now writable same c.in_ok-part.ensures.first in
    let inner = rule_and_rest key c.in_ok-part.rest.now c.in_ok-rule.rule.now c.in_ok-rule.rest.now front.1 c.in_ok-rule.ensures.first in
    let found : PlainKey = record { part = c.in_ok-parse.field-0; rule = c.in_ok-parse-2.field-0; place = c.in_ok-place.place; aspect = c.in_ok-place.aspect } in
    kept_if key found c.of_parts.result writable.fits c.of_parts.ensures
    (c.in_ok-parse.ensures.exact key.part writable.number (sym front.0))
    (c.in_ok-parse-2.ensures.exact key.rule (sym inner.0))
    (c.in_ok-place.ensures.exact key.place key.aspect writable.place (sym inner.1))
