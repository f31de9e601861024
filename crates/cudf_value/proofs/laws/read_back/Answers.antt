use Rattle.cudf_value.proofs.ReadBack.{printed_back}
use Rattle.cudf_value.proofs.laws.read_back.Goals as goal

pub returns : goal.returns
returns c = printed_back c.args.name.now c.args.bound c.requires.name c.requires.bound
