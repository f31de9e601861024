use Rattle.std.proofs.Common.{◌≡◌, ◌-◌, ◌&&◌, ℕ, Bool, true, List, take, sym, ap, ◌∙◌}
use Rattle.std.specs.List.{list_all}
use Rattle.cudf_text.specs.Lines.{lines}
use Rattle.cudf_lrat.specs.Details.{is_skipped}
use Rattle.cudf_lrat.specs.Lines.{proof_line}
use Rattle.cudf_lrat.proofs.DetailLemmas.{all-behind}
use Rattle.cudf_lrat.proofs.details.is_first_step.Goals as goal

pub loop-line-preserved : goal.loop-line-preserved
loop-line-preserved c =
    let test : List ℕ → Bool = λ line. is_skipped (proof_line line) in
    let left = lines c.in-Some.after.now in
    let here : is_skipped (proof_line c.in-Some.line.now) ≡ true = sym c.in_ok-is_skipped.ensures ∙ c.if-not-branch.false in
    sym (all-behind test (lines c.loop-line.rest.now) c.in-Some.line.now left c.loop-line.before c.in-Some.ensures.lines c.if-before-eq0.false
    ∙ ap (λ b. b && list_all test (take (c.loop-line.before - 1) left)) here)
    ∙ c.loop-line.invariant
