use Rattle.std.proofs.Common.{sym, ap, ◌∙◌, is_none, unwrap_or}
use Rattle.cudf_text.specs.declared.fault.Kind.TheVariants.{E11, E12}
use Rattle.cudf_document.specs.Faults.{lesser, least, fault_if}
use Rattle.cudf_document.proofs.BuilderLemmas.{is_none-from}
use Rattle.cudf_document.proofs.FaultLemmas.{least-append}
use Rattle.cudf_document.proofs.problem.walk.package_fault.Goals as goal

pub returns : goal.returns
returns c =
    let repeated = c.fault_if-repeated.ensures ∙ ap (λ line. least (fault_if c.args.is_repeated line E11)) c.unwrap_or.ensures in
    let unversioned = c.fault_if.ensures ∙ ap (λ b. least (fault_if b c.args.last E12)) (is_none-from c.args.version_line c.is_none.result c.is_none.ensures) in
    c.lesser.ensures ∙ (λ i. lesser (repeated i) (unversioned i))
    ∙ sym (least-append (fault_if c.args.is_repeated (unwrap_or c.args.version_line 0) E11) (fault_if (is_none c.args.version_line) c.args.last E12))
