use Rattle.std.proofs.Common.{None, codes, option_map, subst}
use Rattle.cudf_text.specs.Faults.{fault_text}
use Rattle.cudf_device.specs.Promises.PaperInside.{Says}
use Rattle.cudf_device.proofs.PaperLemmas.{Says-as, ◌▸◌}
use Rattle.cudf_check.specs.Explanations.{detail_added}
use Rattle.cudf_check.specs.JobStyles.{named_style}
use Rattle.cudf_check.specs.Naming.{entrant_word, named_before, numbered}
use Rattle.cudf_check.specs.Report.{faulty}
use Rattle.cudf_check.specs.Styles.{of_solution}
use Rattle.cudf_check.specs.Working.Named.{origin_view}
use Rattle.cudf_check.proofs.FaultLemmas.{fault_line}
use Rattle.cudf_check.proofs.lines.ranks.print_faulty_solution.Goals as goal

pub returns : goal.returns
returns g c =
    let whose = entrant_word (option_map (λ n. n.now) c.args.name) c.args.place in
    let origin = option_map origin_view c.own_file-origin.result in
    let f = c.args.fault in
    subst (λ o. Says g.W.Sink.state c.args.paper.now c.text.new.self (faulty (named_style o) of_solution whose f).text) c.own_file-origin.ensures
    (Says-as _ _ _ _ _ (fault_line (named_before origin f.line) whose (numbered origin f.line) (codes ": ") (fault_text f.kind) (detail_added origin None))
    (c.print_file_prefix.ensures ▸ c.print_whose.ensures ▸ c.print_fault.ensures ▸ c.text.ensures))
