use Rattle.std.proofs.Common.{sym, ap, ◌∙◌}
use Rattle.cudf_index.specs.Working.FirstPlaces.{first_version_of}
use Rattle.cudf_index.specs.declared.index.gathered_names.Provision.{Provision}
use Rattle.cudf_index.proofs.HalvesLemmas.{in_back, in_second, in_front}
use Rattle.cudf_index.proofs.VersionLemmas.{no_version}
use Rattle.cudf_index.proofs.index.named_trees.ProvisionTree.+first_version.Goals as goal

pub returns-then-not-deref : goal.returns-then-not-deref
returns-then-not-deref t c =
    in_second (λ (g : Provision). g.is_version) c.self.inside.node c.args.self.now c.in-Halves.entries c.in-Halves.front c.in-Halves.back c.self.view_is c.self.invariant c.in-Halves.is
    c.first_version.result
    (λ xs held. no_version xs (sym held.is_package ∙ ap (λ e. e.is_package) (sym c.deref-in-Halves.ensures) ∙ c.if-not-deref.true))
    (c.first_version.ensures ∙ ap first_version_of c.deref-then-not-deref.ensures)

pub returns-in-None : goal.returns-in-None
returns-in-None t c =
    in_back (λ (g : Provision). g.is_version) c.self.inside.node c.args.self.now c.in-Halves.entries c.in-Halves.front c.in-Halves.back c.self.view_is c.self.invariant c.in-Halves.is
    c.first_version-in-Halves.result c.first_version-in-None.result
    (c.first_version-in-Halves.ensures ∙ ap first_version_of c.deref-in-Halves-2.ensures) (c.first_version-in-None.ensures ∙ ap first_version_of c.deref-in-None.ensures) c.in-None.is

pub returns-in_default : goal.returns-in_default
returns-in_default t c =
    in_front (λ (g : Provision). g.is_version) c.self.inside.node c.args.self.now c.in-Halves.entries c.in-Halves.front c.in-Halves.back c.self.view_is c.self.invariant c.in-Halves.is
    c.first_version-in-Halves.result (c.first_version-in-Halves.ensures ∙ ap first_version_of c.deref-in-Halves-2.ensures) c.in_default.not-None
