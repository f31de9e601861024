use Rattle.std.proofs.Common.{◌∙◌, sym}
use Rattle.cudf_job.proofs.AimLemmas.{aim-unsigned}
use Rattle.cudf_job.proofs.criteria.Aim.parse.Goals as goal

pub returns-in_err-sign : goal.returns-in_err-sign
returns-in_err-sign c = c.from_residual.ensures ∙ sym (aim-unsigned c.args.text.now c.in_err-sign.ensures.unsigned)
