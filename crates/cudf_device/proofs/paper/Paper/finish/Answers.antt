use Rattle.std.proofs.Common.{refl, subst}
use Rattle.cudf_device.specs.declared.outcome.RunError.TheVariants.{Write}
use Rattle.cudf_device.specs.Promises.PaperInside.{IsSaid}
use Rattle.cudf_device.specs.Working.Writing.{Writes}
use Rattle.cudf_device.proofs.AnswerLemmas.{handed_on}
use Rattle.cudf_device.proofs.PaperLemmas.{cut_off, finished, printed, stopped, unprinted, written}
use Rattle.cudf_device.proofs.paper.Paper.finish.Goals as goal

pub returns-in_err-outcome : goal.returns-in_err-outcome
returns-in_err-outcome g c = λ start blank report fresh p.
    handed_on _ _ _ _ _ c.from_residual.ensures (unprinted g.W.Sink.state start blank c.args.self report c.args.answer _ c.in_err-outcome.was fresh p)

pub returns-then-has_failed : goal.returns-then-has_failed
returns-then-has_failed g c = λ start blank report fresh p.
    let old = c.args.self in
    let now = g.W.Sink.state old.out.now in
    let said = printed g.W.Sink.state start blank old report c.args.answer _ c.in_ok-outcome.was fresh p in
    stopped start now report Write refl (subst (λ f. IsSaid f start now old.waiting.now report.text) c.if-has_failed.true said.0)

pub returns-in_err-write_all : goal.returns-in_err-write_all
returns-in_err-write_all g c = λ start blank report fresh p.
    let old = c.args.self in
    let now = g.W.Sink.state old.out.now in
    let said = printed g.W.Sink.state start blank old report c.args.answer _ c.in_ok-outcome.was fresh p in
    handed_on _ _ _ _ _ c.from_residual-in_err-write_all.ensures (stopped start _ report _ c.in_err-write_all.ensures.only
    (cut_off start now _ _ report.text _ (subst (Writes now _ _) c.bytes.ensures c.in_err-write_all.ensures) (subst (λ f. IsSaid f start now old.waiting.now report.text) c.if-has_failed.false said.0)))

pub returns : goal.returns
returns g c = λ start blank report fresh p.
    let old = c.args.self in
    let now = g.W.Sink.state old.out.now in
    let said = printed g.W.Sink.state start blank old report c.args.answer _ c.in_ok-outcome.was fresh p in
    finished start _ report _ said.1
    (written start now _ _ report.text (subst (Writes now _ _) c.bytes.ensures c.in_ok-write_all.ensures) (subst (λ f. IsSaid f start now old.waiting.now report.text) c.if-has_failed.false said.0))
