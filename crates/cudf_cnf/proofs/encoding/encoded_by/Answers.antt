use Rattle.std.proofs.Common.{sym, ◌∙◌}
use Rattle.std.proofs.lemmas.Result.{IfOk-weaker}
use Rattle.cudf_cnf.proofs.EncodingLemmas.{any_encoded, too_large}
use Rattle.cudf_cnf.proofs.encoding.encoded_by.Goals as goal

pub returns-then-branch : goal.returns-then-branch
returns-then-branch c = too_large c.args.encoder.now.problem.now (sym c.in_ok-has_too_many.ensures ∙ c.if-branch.true)

pub returns : goal.returns
returns c = IfOk-weaker c.collect_clauses-2.result _ _ (λ o h. any_encoded c.args.encoder.now.problem.now o c.requires.small h) c.collect_clauses-2.ensures
