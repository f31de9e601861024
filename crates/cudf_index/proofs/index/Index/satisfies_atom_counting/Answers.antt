use Rattle.std.proofs.Common.{arith}
use Rattle.std.proofs.lemmas.Grind.{common_steps}
use Rattle.cudf_index.proofs.index.Index.satisfies_atom_counting.Goals as goal

pub returns-in-Yes : goal.returns-in-Yes
returns-in-Yes c = grind (arith, common_steps)

pub returns-in-No : goal.returns-in-No
returns-in-No c = grind (arith, common_steps)

pub returns-in-Is : goal.returns-in-Is
returns-in-Is c = grind (arith, common_steps)
