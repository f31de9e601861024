use Rattle.std.proofs.Common.{ℕ, List, [], Option, ap, ◌∙◌}
use Rattle.std.specs.Option.{option_map_or}
use Rattle.cudf_job.specs.KeyViews.{key_view}
use Rattle.cudf_referee.specs.Instances.{PlainInstance}
use Rattle.cudf_check.specs.Report.{reason_line}
use Rattle.cudf_referee.specs.Violations.{instance_of}
use Rattle.cudf_check.specs.Working.Named.{reason_style}
use Rattle.cudf_device.proofs.PaperLemmas.{Says-as, Says-none}
use Rattle.cudf_check.proofs.lines.reasons.ReasonScribe.print_reason.Goals as goal

pub returns-in-Some-clause-told : goal.returns-in-Some-clause-told
returns-in-Some-clause-told g c =
    let w = c.args.self.now in
    let line_of : Option PlainInstance → List ℕ = λ o. option_map_or (λ i. reason_line (reason_style w.explain) w.problem (i, c.args.met.now)) o [] in
    Says-as _ _ _ _ _ ((λ k. line_of (c.in-Some.ensures.found k)) ∙ ap (λ p. line_of (instance_of p (key_view c.args.key))) c.requires) c.print_line.ensures

pub returns-in-None-clause-told : goal.returns-in-None-clause-told
returns-in-None-clause-told g c =
    let w = c.args.self.now in
    let line_of : Option PlainInstance → List ℕ = λ o. option_map_or (λ i. reason_line (reason_style w.explain) w.problem (i, c.args.met.now)) o [] in
    Says-as _ _ _ _ _ ((λ k. line_of (c.in-None.ensures.found k)) ∙ ap (λ p. line_of (instance_of p (key_view c.args.key))) c.requires) (Says-none _ _)
