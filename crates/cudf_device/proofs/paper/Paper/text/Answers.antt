use Rattle.std.proofs.Common.{◌++◌, refl, ap, subst, sym, ◌∙◌}
use Rattle.cudf_device.specs.Promises.PaperInside.{IsSaid}
use Rattle.cudf_device.specs.Working.Writing.{Writes}
use Rattle.cudf_device.proofs.PaperLemmas.{added, broke, wrote}
use Rattle.cudf_device.proofs.paper.Paper.text.Goals as goal

pub returns-then-add : goal.returns-then-add
returns-then-add g c = let now = g.W.Sink.state c.args.self.now.out.now in let waits = c.args.self.now.waiting.now in record {
  same = refl;
  said = λ start before h. subst (λ f. IsSaid f start now c.add.new.self (before ++ c.args.text.now)) (sym c.if-self.false)
      (added start now waits _ before c.args.text.now (c.if-add.ensures ∙ ap (λ text. waits ++ text) c.as_bytes-bytes.ensures.value)
      (subst (λ f. IsSaid f start now waits before) c.if-self.false h));
}

pub returns-then-is_err : goal.returns-then-is_err
returns-then-is_err g c = let now = g.W.Sink.state c.args.self.now.out.now in let waits = c.args.self.now.waiting.now in record {
  same = refl;
  said = λ start before h. broke start now _ waits before c.args.text.now c.write_all.result (sym c.is_err.ensures.value ∙ c.if-is_err.true)
      (subst (Writes now (g.W.Sink.state c.write_all.new.sink) c.write_all.result) (c.bytes.ensures ∙ c.if-add.ensures) c.write_all.ensures)
      (subst (λ f. IsSaid f start now waits before) c.if-self.false h);
}

pub returns : goal.returns
returns g c =
    let now = g.W.Sink.state c.args.self.now.out.now in
    let flushed = g.W.Sink.state c.write_all.new.sink in
    let last = g.W.Sink.state c.write_all-2.new.sink in
    let waits = c.args.self.now.waiting.now in
    let text = c.args.text.now in
    record {
      same = refl;
      said = λ start before h. subst (λ f. IsSaid f start last c.clear.new.self (before ++ text)) (sym c.is_err-self.ensures.value)
          (wrote start now flushed last waits c.clear.new.self before text c.write_all.result c.write_all-2.result (sym c.is_err.ensures.value ∙ c.if-is_err.false)
          (subst (Writes now flushed c.write_all.result) (c.bytes.ensures ∙ c.if-add.ensures) c.write_all.ensures) c.clear.ensures
          (subst (Writes flushed last c.write_all-2.result) c.as_bytes-bytes.ensures.value c.write_all-2.ensures)
          (subst (λ f. IsSaid f start now waits before) c.if-self.false h));
    }
