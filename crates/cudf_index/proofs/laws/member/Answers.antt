use Rattle.cudf_index.proofs.SatisfactionLemmas.{member_alone}
use Rattle.cudf_index.proofs.laws.member.Goals as goal

pub returns : goal.returns
returns c = member_alone
