use Rattle.cudf_value.proofs.EnumLemmas.{enum_declared}
use Rattle.cudf_value.proofs.laws.declared_enum.Goals as goal

pub returns : goal.returns
returns c = record {
  declares = enum_declared c.args._name.now c.args._gap.now c.args._space.now c.args._blanks.now c.args._rest.now c.requires.name c.requires.gap c.requires.space c.requires.blanks;
}
