use Rattle.cudf_value.proofs.DeclarationLemmas.{declared_spaced}
use Rattle.cudf_value.proofs.laws.declared.Goals as goal

pub returns : goal.returns
returns c = declared_spaced c.args._name.now c.args._gap.now c.args._space.now c.args._word.now c.args._rest.now c.requires.name c.requires.gap c.requires.space c.requires.word c.requires.rest
