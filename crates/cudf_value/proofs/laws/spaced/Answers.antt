use Rattle.cudf_value.proofs.VpkgLemmas.{read_spaced}
use Rattle.cudf_value.proofs.laws.spaced.Goals as goal

pub returns : goal.returns
returns c = read_spaced c.args._name.now c.args._gap.now c.args._relop c.args._space.now c.args._number.now c.requires.name c.requires.gap c.requires.space
