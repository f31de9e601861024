use Rattle.std.proofs.Common.{ap, option_map}
use Rattle.cudf_referee.specs.Promises.Views.{instance_view}
use Rattle.cudf_check.specs.Explanations.{explained, help_of}
use Rattle.cudf_check.specs.Working.Named.{listed_by, origin_view}
use Rattle.cudf_device.proofs.PaperLemmas.{Says-as, ◌▸◌}
use Rattle.cudf_check.proofs.lines.explanation.print_explained.Goals as goal

pub returns : goal.returns
unfolding explained
returns g c =
    let i = instance_view c.args.instance.now in
    let listed = listed_by (option_map origin_view c.args.listed.origin) c.args.listed.lines.now in
    Says-as _ _ _ _ _ (ap (λ problem. help_of listed problem i) c.remedies.ensures) c.print_remedy.ensures ▸ c.print_status.ensures ▸ c.print_met.ensures
