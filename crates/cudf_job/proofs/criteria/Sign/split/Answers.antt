use Rattle.std.proofs.Common.{None, lit<}
use Rattle.std.proofs.lemmas.Str.Pattern.{strip_prefix_char}
use Rattle.cudf_job.proofs.AimLemmas.{neither_sign}
use Rattle.cudf_job.proofs.criteria.Sign.split.Goals as goal

pub returns-in_err-strip_prefix-in-None-clause-unsigned :
    goal.returns-in_err-strip_prefix-in-None-clause-unsigned
returns-in_err-strip_prefix-in-None-clause-unsigned c =
    let text = c.args.text.now in
    rw c.from_residual.ensures (neither_sign text
    (strip_prefix_char 45 text None c.in-None.ensures.cases (lit< tt))
    (strip_prefix_char 43 text None c.in_err-strip_prefix-in-None.ensures.cases (lit< tt)))
