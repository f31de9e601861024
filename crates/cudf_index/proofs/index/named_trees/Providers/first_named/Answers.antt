use Rattle.std.proofs.Common.{ap, ◌∙◌}
use Rattle.cudf_index.specs.Satisfaction.{first_named}
use Rattle.cudf_index.specs.Working.FirstPlaces.{first_version_of}
use Rattle.cudf_index.proofs.VersionLemmas.{version_given}
use Rattle.cudf_index.proofs.index.named_trees.Providers.first_named.Goals as goal

pub returns : goal.returns
returns c =
    let name = c.args.name.now in
    c.first_named.ensures ∙ ap first_version_of (c.self.invariant name) ∙ version_given name _ ∙ ap (λ status. first_named status name) c.self.view_is
