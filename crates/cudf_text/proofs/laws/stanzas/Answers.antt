use Rattle.cudf_text.proofs.LawLemmas.{stanzas_have_properties}
use Rattle.cudf_text.proofs.laws.stanzas.Goals as goal

pub returns : goal.returns
returns c = stanzas_have_properties c.args.text.now
