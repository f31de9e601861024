use Rattle.std.proofs.Common.{ap, ◌∙◌}
use Rattle.std.proofs.lemmas.Result.{IfOk-weaker}
use Rattle.cudf_text.specs.Working.Steps.{extend_last}
use Rattle.cudf_text.proofs.StepLemmas.{continued_last}
use Rattle.cudf_text.proofs.line.continue_last.Goals as goal

pub returns : goal.returns
returns c =
    let moved = c.in_ok-move_last.ensures in
    IfOk-weaker c.continue_property.result _ _ (λ x e.
    continued_last c.move_last.new.parts.items c.move_last.new.others.items c.continue_property.new.properties.items c.args.text.now moved.last e
    ∙ ap (λ ps. extend_last ps c.args.text.now) moved.same) c.continue_property.ensures
