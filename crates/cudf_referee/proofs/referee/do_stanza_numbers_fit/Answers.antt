use Rattle.std.proofs.Common.{◌-◌, length, arith}
use Rattle.std.proofs.lemmas.List.{length-map}
use Rattle.cudf_problem.specs.Promises.Views.{unknown_view}
use Rattle.cudf_referee.proofs.WritableLemmas.{numbers_small}
use Rattle.cudf_referee.proofs.referee.do_stanza_numbers_fit.Goals as goal

pub returns-then-count-eq0 : goal.returns-then-count-eq0
returns-then-count-eq0 c = λ k d inside. absurd (omega (arith, inside, c.if-count-eq0.true, length-map c.args.unknown.now unknown_view))

pub returns : goal.returns
returns c =
    numbers_small c.args.unknown.now (length c.args.unknown.now - 1) c.number_at-last.result c.requires (omega (arith, c.if-count-eq0.false)) (c.number_at-last.ensures.value 0) c.number_at-last.type_inv
