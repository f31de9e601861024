use Rattle.std.proofs.Common.{◌≡◌, ◌-◌, length, drop, refl, ap, ◌∙◌, arith}
use Rattle.std.specs.Str.{chars}
use Rattle.std.specs.Str.Iter.{chars_rest}
use Rattle.cudf_check.proofs.ShownLemmas.{behind_step, left_len, front_cut, front_chars, is_left}
use Rattle.cudf_check.proofs.lines.naming.clip.Goals as goal

pub loop-preserved : goal.loop-preserved
loop-preserved c = behind_step chars_rest c.args.text.now c.loop.chars c.next.new.self c.loop.counter c.next.result c.loop.invariant.0 c.loop.invariant.1 c.next.ensures.steps.0

pub overflow_sub-text : goal.overflow_sub-text
overflow_sub-text c =
    let text = c.args.text.now in
    let rest = c.as_str-rest.result.now in
    left_len text rest c.loop.counter (length text - length rest) c.utf8.text c.as_str-rest.utf8 (ap chars c.as_str-rest.ensures ∙ c.loop.invariant.1) refl

pub split_at-requires : goal.split_at-requires
split_at-requires c =
    let text = c.args.text.now in
    let rest = c.as_str-rest.result.now in
    front_cut text rest c.loop.counter (length text - length rest) c.utf8.text c.as_str-rest.utf8 (ap chars c.as_str-rest.ensures ∙ c.loop.invariant.1) refl

pub returns-clause-front : goal.returns-clause-front
returns-clause-front c =
    let text = c.args.text.now in
    let rest = c.as_str-rest.result.now in
    let end : c.loop.counter ≡ 60 = omega (arith, c.loop-test.false, c.loop.auto.counter-end) in
    let left : chars rest ≡ drop 60 (chars text) = ap chars c.as_str-rest.ensures ∙ c.loop.invariant.1 ∙ ap (λ n. drop n (chars text)) end in
    ap chars c.split_at.ensures.front ∙ front_chars text rest 60 (length text - length rest) c.utf8.text c.as_str-rest.utf8 left refl

pub returns-clause-more : goal.returns-clause-more
returns-clause-more c =
    let text = c.args.text.now in
    let rest = c.as_str-rest.result.now in
    let end : c.loop.counter ≡ 60 = omega (arith, c.loop-test.false, c.loop.auto.counter-end) in
    let left : chars rest ≡ drop 60 (chars text) = ap chars c.as_str-rest.ensures ∙ c.loop.invariant.1 ∙ ap (λ n. drop n (chars text)) end in
    rw c.is_empty.ensures (is_left text rest c.as_str-rest.utf8 left)
