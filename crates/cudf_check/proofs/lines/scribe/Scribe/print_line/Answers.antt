use Rattle.std.proofs.Common.{◌≡◌, option_and_then, ap, ◌∙◌}
use Rattle.cudf_problem.specs.Universe.{package_at}
use Rattle.cudf_referee.specs.Promises.Views.{instance_view}
use Rattle.cudf_referee.specs.Violations.{met_by}
use Rattle.cudf_check.specs.Explanations.{met_added}
use Rattle.cudf_check.specs.JobStyles.{named_style}
use Rattle.cudf_check.specs.Naming.{origin_of}
use Rattle.cudf_check.specs.Report.{met_text}
use Rattle.cudf_check.specs.Styles.{document_of}
use Rattle.cudf_check.specs.Working.Named.{listed_by, origins_view}
use Rattle.cudf_device.proofs.PaperLemmas.{Says-as, ◌▸◌}
use Rattle.cudf_check.proofs.lines.scribe.Scribe.print_line.Goals as goal

pub returns : goal.returns
returns g c =
    let i = instance_view c.args.instance.now in
    let s = c.self.inside.referee.now in
    let w = c.args.self.now in
    let place : c.met_by-place.result ≡ met_by w.judged.proposed i = c.met_by-place.ensures ∙ ap (λ w. met_by w.judged.proposed i) c.self.view_is in
    let met = c.package_at-met.ensures s.problem c.packages.ensures ∙ (λ k. option_and_then (package_at (c.self.view_is k).judged.problem) (place k)) in
    let origin = c.of-origin.ensures ∙ ap (λ part. origin_of (origins_view c.self.inside.origins) (document_of part)) c.part.ensures.value ∙ ap (λ w. origin_of w.origins (document_of i.key.part)) c.self.view_is in
    Says-as _ _ _ _ _ (λ k. met_text (named_style (origin k)) i (met k)) c.print_instance.ensures
    ▸ Says-as _ _ _ _ _ (ap (met_added w.explain (listed_by w.origins.solution w.lines) w.judged i) place) c.print_added.ensures ▸ c.text.ensures
