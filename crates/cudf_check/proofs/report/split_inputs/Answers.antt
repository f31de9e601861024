use Rattle.std.proofs.Common.{ap, sym, ◌∙◌, option_map}
use Rattle.cudf_check.specs.JobStyles.{inputs_style, pair_style}
use Rattle.cudf_check.specs.JobReport.{inputs_report}
use Rattle.cudf_check.specs.Working.Found.{pair_report}
use Rattle.cudf_check.specs.Working.Named.{given_names}
use Rattle.cudf_check.proofs.report.split_inputs.Goals as goal

pub returns-in-None : goal.returns-in-None
returns-in-None c explain mode found =
    (λ k. let style = pair_style explain (c.cut.ensures.origins k) (c.cut.ensures.problem k) (c.cut.ensures.solution k) in
    pair_report style mode (found style) (c.cut.ensures.problem k) (c.cut.ensures.solution k))
    ∙ ap (λ s. let bytes = option_map (λ g. g.bytes.now) s in let style = inputs_style explain (given_names c.args.first s) c.args.first.bytes.now bytes in
    inputs_report style mode (found style) c.args.first.bytes.now bytes) (sym c.in-None.is)
