use Rattle.std.proofs.Common.{[], if◌then◌else◌, codes, sym, ap, ◌∙◌}
use Rattle.cudf_device.proofs.PaperLemmas.{Says-as}
use Rattle.cudf_check.proofs.lines.detail.print_missing_blank.Goals as goal

pub returns-then-is_postmark : goal.returns-then-is_postmark
returns-then-is_postmark g c =
    Says-as _ _ _ _ _ (ap (λ b. if b then codes ", a blank line may be missing before it" else []) (sym c.if-is_postmark.true ∙ c.is_postmark.ensures)) c.text.ensures
