use Rattle.std.proofs.Common.{◌≡◌, ◌-◌, ◌<◌, List, ℕ, ◌∷◌, sym, ap, ◌∙◌, arith, drop, length, take, length-take}
use Rattle.std.specs.List.{position_or_len, prefix_len}
use Rattle.std.proofs.lemmas.List.{take_rest}
use Rattle.cudf_text.specs.Chars.{is_blank}
use Rattle.cudf_lrat.proofs.WordLemmas.{words_drop, words_first, words_none}
use Rattle.cudf_lrat.specs.Lines.{words_of}
use Rattle.cudf_lrat.proofs.reader.next_word.Goals as goal

pub returns-then-len-eq0-clause-words : goal.returns-then-len-eq0-clause-words
returns-then-len-eq0-clause-words c =
    let text = c.args.text.now in
    let rest = ap (λ (xs : List ℕ). position_or_len is_blank xs) (take_rest text c.blanks.result) ∙ ap (λ n. position_or_len is_blank (drop n text)) c.blanks.ensures.value in
    words_none text (sym rest ∙ sym c.word_len-len.ensures.value ∙ c.if-len-eq0.true)

pub returns-clause-words : goal.returns-clause-words
returns-clause-words c =
    let text = c.args.text.now in
    let n = c.word_len-len.result in
    let left = take (length text - c.blanks.result) (drop c.blanks.result text) in
    let start : left ≡ drop (prefix_len is_blank text) text = take_rest text c.blanks.result ∙ ap (λ k. drop k text) c.blanks.ensures.value in
    let some : 0 < length (take n left) = omega (arith, length-take n left) in
    let first : words_of left ≡ take n left ∷ words_of (drop n left) = words_first left n c.word_len-len.ensures.value some in
    let here : words_of text ≡ words_of left = sym (words_drop text) ∙ ap words_of (sym start) in
    here ∙ first ∙ (λ i. sym c.split_at.ensures.front i ∷ words_of (sym c.split_at.ensures.back i))
