use Rattle.std.proofs.Common.{◌≡◌, List, ℕ, ◌∷◌, ap, sym, ◌∙◌, length, take, arith}
use Rattle.std.proofs.lemmas.Bool.{eqb-false}
use Rattle.std.proofs.lemmas.List.{take_rest}
use Rattle.cudf_text.specs.Lines.{lines}
use Rattle.cudf_lrat.proofs.LineLemmas.{lines_next}
use Rattle.cudf_lrat.proofs.reader.first_line.Goals as goal

pub returns-clause-lines : goal.returns-clause-lines
returns-clause-lines c =
    let text = c.args.text.now in
    let none : length text ≡ 0 → ⊥ = eqb-false _ _ (sym c.if-is_empty.ensures) in
    lines_next text c.lf_position-end.result c.min-next.result c.len_without_return-len.result (omega arith) c.lf_position-end.ensures.value c.min-next.ensures c.len_without_return-len.ensures.inside c.len_without_return-len.ensures.value
    ∙ ap (λ (rest : List ℕ). take c.len_without_return-len.result text ∷ lines rest) (sym (take_rest text c.min-next.result))
