use Rattle.std.proofs.Common.{codes, option_map}
use Rattle.cudf_text.specs.Faults.{fault_text}
use Rattle.cudf_document.specs.Promises.Views.{detail_view}
use Rattle.cudf_device.proofs.PaperLemmas.{Says-as, ◌▸◌}
use Rattle.cudf_check.specs.Explanations.{detail_added}
use Rattle.cudf_check.specs.Naming.{named_before, numbered}
use Rattle.cudf_check.specs.Working.Named.{origin_view}
use Rattle.cudf_check.proofs.FaultLemmas.{fault_line}
use Rattle.cudf_check.proofs.lines.naming.print_faulty.Goals as goal

pub returns : goal.returns
returns g c =
    let origin = option_map origin_view c.args.document.origin in
    let f = c.args.fault in
    Says-as _ _ _ _ _ (fault_line (named_before origin f.line) c.args.document.whose.now (numbered origin f.line) (codes ": ") (fault_text f.kind) (detail_added origin (option_map detail_view c.args.detail)))
    (c.print_file_prefix.ensures ▸ c.text.ensures ▸ c.print_fault.ensures ▸ c.text-2.ensures)
