use Rattle.std.proofs.Common.{true, sym, ◌∙◌, arith}
use Rattle.cudf_value.specs.Promises.Views.{vpkg_view}
use Rattle.cudf_cnf.proofs.CountLemmas.{others_counted}
use Rattle.cudf_cnf.proofs.encoding.count_others.Goals as goal

pub overflow_sub-result : goal.overflow_sub-result
overflow_sub-result c =
    let there = others_counted true c.args.encoder.now.all c.args.encoder.now.problem.now.packages c.args.place (vpkg_view c.args.vpkg.now) c.args.encoder.now.every (sym c.if-satisfies_at.true ∙ c.satisfies_at.ensures) in
    omega (arith, there, rw c.requires at c.meeting-meeting.ensures)
