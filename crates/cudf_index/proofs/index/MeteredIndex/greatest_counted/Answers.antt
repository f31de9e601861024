use Rattle.std.proofs.Common.{arith}
use Rattle.std.proofs.lemmas.Grind.{common_steps}
use Rattle.cudf_index.proofs.index.MeteredIndex.greatest_counted.Goals as goal

pub returns : goal.returns
returns c = grind (arith, common_steps)
