use Rattle.cudf_text.proofs.LineLemmas.{place-is}
use Rattle.std.proofs.Common.{◌∙◌}
use Rattle.cudf_text.proofs.line.lf_place.Goals as goal

pub returns-clause-value : goal.returns-clause-value
returns-clause-value c = c.unwrap_or.ensures ∙ place-is 10 c.args.bytes.now c.memchr.result c.memchr.ensures
