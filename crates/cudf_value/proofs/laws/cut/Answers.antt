use Rattle.cudf_value.proofs.TokenLemmas.{cut_at_commas, pieces_join}
use Rattle.cudf_value.proofs.MadeLemmas.{made_of_tokens, quotable_as_made}
use Rattle.cudf_value.proofs.laws.cut.Goals as goal

pub returns : goal.returns
returns c = record {
  joined = pieces_join c.args.text.now;
  commas = cut_at_commas;
  made = made_of_tokens c.args.text.now;
  quotable = quotable_as_made c.args.text.now;
}
