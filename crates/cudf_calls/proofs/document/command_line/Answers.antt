use Rattle.std.proofs.lemmas.Result.{err_from_is_err_and}
use Rattle.cudf_calls.proofs.CallLemmas.{own_dashes, own_name, refused_so}
use Rattle.cudf_calls.proofs.document.command_line.Goals as goal

pub returns-in_err-add-clause-read : goal.returns-in_err-add-clause-read
returns-in_err-add-clause-read c =
    let p = err_from_is_err_and c.from_residual.result c.from_residual.ensures.1 in
    rw (p.1, p.2) (refused_so _ (λ is. absurd (is own_name)) c.in_err-add.ensures.read)

pub returns-in_err-add-2-clause-read : goal.returns-in_err-add-2-clause-read
returns-in_err-add-2-clause-read c =
    let p = err_from_is_err_and c.from_residual-in_err-add-2.result c.from_residual-in_err-add-2.ensures.1 in
    rw (p.1, p.2) (refused_so _ (λ is. absurd (is own_dashes)) c.in_err-add-2.ensures.read)
