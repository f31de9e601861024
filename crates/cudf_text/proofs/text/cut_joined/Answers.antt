use Rattle.std.proofs.Common.{◌∙◌, ◌≡◌, ◌++◌, ◌-◌, length, sym, ap, arith}
use Rattle.std.proofs.lemmas.List.{take-append-drop}
use Rattle.cudf_text.proofs.JoinedLemmas.{problem-is, solution-is, suffix-next}
use Rattle.cudf_text.proofs.text.cut_joined.Goals as goal

pub returns-clause-solution : goal.returns-clause-solution
returns-clause-solution c =
    let text = c.args.bytes.now in
    let mid = c.after_mark.result.now in
    let rest = c.after_mark-rest.result.now in
    c.split_at.ensures.back
    ∙ suffix-next text mid rest (length mid - length rest) c.after_mark.ensures.inside (omega arith) c.after_mark.ensures.end (sym c.after_mark-rest.ensures.end)
    ∙ solution-is text mid rest c.after_mark.ensures.lines c.after_mark-rest.ensures.lines

pub returns-clause-problem : goal.returns-clause-problem
returns-clause-problem c =
    let text = c.args.bytes.now in
    let parts = c.split_at.ensures in
    let joined : c.split_at.result.0.now ++ c.split_at.result.1.now ≡ text = rw (parts.front, parts.back) (take-append-drop _ text) in
    problem-is text c.split_at.result.0.now (ap (λ t. c.split_at.result.0.now ++ t) (sym (returns-clause-solution c)) ∙ joined)
