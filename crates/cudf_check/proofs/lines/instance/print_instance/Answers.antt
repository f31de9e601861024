use Rattle.std.proofs.Common.{ap, option_map}
use Rattle.cudf_problem.specs.Promises.Views.{package_view}
use Rattle.cudf_referee.specs.Promises.Views.{instance_view}
use Rattle.cudf_check.specs.Report.{what_text}
use Rattle.cudf_device.proofs.PaperLemmas.{Says-as, ◌▸◌}
use Rattle.cudf_check.proofs.lines.instance.print_instance.Goals as goal

pub returns : goal.returns
returns g c =
    let i = instance_view c.args.instance.now in
    c.print_file_prefix.ensures ▸ c.print_key.ensures ▸ c.print_subject.ensures ▸ c.print_numbered.ensures ▸ c.text.ensures
    ▸ Says-as _ _ _ _ _ (ap (λ aspect. what_text i.what aspect (option_map (λ p. package_view p.now) c.args.met)) c.aspect.ensures) c.print_what.ensures
