use Rattle.std.proofs.Common.{◌∙◌}
use Rattle.std.proofs.lemmas.Result.{IfOk-weaker}
use Rattle.cudf_document.proofs.DetailLemmas.{detail_of-bytes, detail_of-text}
use Rattle.cudf_document.proofs.details.of_fault.detail.Goals as goal

pub returns-in-Ok : goal.returns-in-Ok
returns-in-Ok c =
    let whole = detail_of-text c.args.bytes.now c.in-Ok.source.now c.args.fault c.in-Ok.ensures.utf8.0 c.in-Ok.ensures.utf8.1 in
    IfOk-weaker c.source_detail.result _ _ (λ d is. is ∙ whole) c.source_detail.ensures

pub returns-in-Err : goal.returns-in-Err
returns-in-Err c = c.byte_detail.ensures c.in-Err.ensures.fault.0 ∙ detail_of-bytes c.args.bytes.now c.args.fault c.in-Err.ensures.fault.0
