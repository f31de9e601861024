use Rattle.std.proofs.Common.{Some, inl, inr, map, refl, string_bytes}
use Rattle.cudf_command_line.specs.Command.{takes_standard}
use Rattle.cudf_program.specs.Program.{IsOfWords}
use Rattle.cudf_program.specs.declared.failure.Failure.TheVariants.{Usage}
use Rattle.cudf_program.proofs.FileLemmas.{keeps_all, not_alone, told, tried_anyway}
use Rattle.cudf_program.proofs.obey.Goals as goal

pub returns-then-takes_standard : goal.returns-then-takes_standard
returns-then-takes_standard g c = inl (record {
  order = c.in-Ok.order;
  asked = c.in-Ok.ensures.asks;
  unread = λ alone. not_alone (takes_standard c.in-Ok.order) c.takes_standard.result _ c.takes_standard.ensures c.if-takes_standard.true alone;
  tried = c.carry_out.ensures;
})

pub returns-else-takes_standard : goal.returns-else-takes_standard
returns-else-takes_standard g c = inl (record {
  order = c.in-Ok.order;
  asked = c.in-Ok.ensures.asks;
  unread = λ alone. keeps_all (g.I.Read.remaining c.args.standard.now);
  tried = tried_anyway (g.R.System.opens c.args.rt.now) (Some (g.I.Read.remaining c.args.standard.now)) c.in-Ok.order _ _ c.carry_out-else-takes_standard.ensures;
})

pub returns-in-Err : goal.returns-in-Err
returns-in-Err g c = inr (record {
  unread = keeps_all (g.I.Read.remaining c.args.standard.now);
  fails = told g.W.Sink.state (IsOfWords (map string_bytes c.args.words.now)) (Usage c.in-Err.usage) c.args.out.now c.report_failure.new.out c.report_failure.result
      (c.in-Err.usage, refl, c.in-Err.ensures.asks) c.report_failure.ensures.status c.report_failure.ensures.printed c.report_failure.ensures.quiet;
})
