use Rattle.std.proofs.Common.{sym, ap}
use Rattle.cudf_lrat.specs.Details.{detail_view}
use Rattle.cudf_device.proofs.PaperLemmas.{Says-as}
use Rattle.cudf_check.specs.ProofDetails.{detail_text}
use Rattle.cudf_check.proofs.lines.reasons.print_detail.Goals as goal

pub returns-in-Binary : goal.returns-in-Binary
returns-in-Binary g c = Says-as _ _ _ _ _ (ap (λ d. detail_text (detail_view d)) (sym c.in-Binary.is)) c.text.ensures

pub returns-in-NoHints : goal.returns-in-NoHints
returns-in-NoHints g c = Says-as _ _ _ _ _ (ap (λ d. detail_text (detail_view d)) (sym c.in-NoHints.is)) c.text-in-NoHints.ensures
