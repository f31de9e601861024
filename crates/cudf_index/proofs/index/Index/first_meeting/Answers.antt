use Rattle.std.proofs.Common.{ap, ◌∙◌}
use Rattle.cudf_value.specs.Promises.Views.{vpkg_view}
use Rattle.cudf_index.specs.Promises.Members.{other_than}
use Rattle.cudf_index.specs.Satisfaction.{first_meeting}
use Rattle.cudf_index.specs.Working.FirstPlaces.{first_place_of}
use Rattle.cudf_index.proofs.TreeLemmas.{first_given}
use Rattle.cudf_index.proofs.index.Index.first_meeting.Goals as goal

pub returns : goal.returns
returns c =
    let v = vpkg_view c.args.vpkg.now in
    c.first_meeting.ensures ∙ ap (first_place_of c.args.except v.bound) (c.self.invariant.0 v.name).1 ∙ first_given v c.args.except _
    ∙ ap (λ status. first_meeting (other_than c.args.except status) v) c.self.view_is
