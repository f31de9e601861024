use Rattle.std.proofs.Common.{None, ap, ◌∙◌}
use Rattle.cudf_value.specs.Promises.Views.{vpkg_view}
use Rattle.cudf_index.specs.Satisfaction.{first_meeting}
use Rattle.cudf_index.specs.Working.FirstPlaces.{first_place_of}
use Rattle.cudf_index.proofs.TreeLemmas.{first_given}
use Rattle.cudf_index.proofs.index.named_trees.Providers.first_meeting.Goals as goal

pub returns : goal.returns
returns c =
    let v = vpkg_view c.args.vpkg.now in
    c.first_meeting.ensures ∙ ap (first_place_of None v.bound) (c.self.invariant v.name) ∙ first_given v None _ ∙ ap (λ status. first_meeting status v) c.self.view_is
