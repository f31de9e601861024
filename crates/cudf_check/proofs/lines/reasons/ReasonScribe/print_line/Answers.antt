use Rattle.std.proofs.Common.{◌++◌, None, ap}
use Rattle.cudf_referee.specs.Promises.Views.{instance_view}
use Rattle.cudf_check.specs.Explanations.{reason_added}
use Rattle.cudf_check.specs.Report.{line, met_text, met_texts}
use Rattle.cudf_check.specs.Working.Named.{reason_style}
use Rattle.cudf_device.proofs.PaperLemmas.{Says-as, ◌▸◌}
use Rattle.cudf_check.proofs.lines.reasons.ReasonScribe.print_line.Goals as goal

pub returns : goal.returns
returns g c =
    let i = instance_view c.args.instance.now in
    let w = c.args.self.now in
    Says-as _ _ _ _ _ (ap (λ s. line (met_text (reason_style w.explain) i None ++ met_texts s.problem c.args.met.now ++ reason_added w.explain w.problem i)) c.self.view_is)
    (c.print_instance.ensures ▸ c.print_met.ensures ▸ c.print_added.ensures ▸ c.text.ensures)
