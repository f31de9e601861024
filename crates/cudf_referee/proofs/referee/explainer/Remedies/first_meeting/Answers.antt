use Rattle.std.proofs.Common.{sym, ap, ◌∙◌}
use Rattle.cudf_value.specs.Promises.Views.{vpkg_view}
use Rattle.cudf_index.specs.Satisfaction.{first_meeting, meets_alone}
use Rattle.cudf_referee.specs.Working.Firsts.{lesser_of, searched}
use Rattle.cudf_referee.proofs.RemedyLemmas.{first_of_both}
use Rattle.cudf_referee.proofs.referee.explainer.Remedies.first_meeting.Goals as goal

pub returns-in-All : goal.returns-in-All
returns-in-All c =
    let v = vpkg_view c.args.vpkg.now in
    c.lesser_of.ensures ∙ (λ i. lesser_of (c.first_meeting.ensures i) (c.first_meeting-in-All.ensures i))
    ∙ first_of_both c.self.inside.problem.now c.args.self.now (meets_alone v) _ _ c.self.invariant.0 c.self.invariant.1 c.self.view_is
    ∙ ap (λ among. first_meeting (searched c.args.self.now among) v) (sym c.in-All.is)
