use Rattle.std.proofs.Common.{ap, sym, ◌∙◌, unwrap_or}
use Rattle.cudf_text.proofs.NameLineLemmas.{indented_class}
use Rattle.cudf_text.proofs.line.classify.Goals as goal

pub returns-then-has : goal.returns-then-has
returns-then-has c =
    let first = c.unwrap_or-first.ensures ∙ ap (λ o. unwrap_or o 32) (c.copied.ensures ∙ rw c.as_bytes.ensures.value at c.first.ensures.value) in
    rw (c.classify_indented.ensures, c.trim.ensures)
    (indented_class c.args.line.now c.unwrap_or-first.result first c.if-first-eq35.false (sym c.if-has.ensures.value))
