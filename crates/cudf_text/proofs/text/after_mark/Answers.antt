use Rattle.std.proofs.Common.{◌∙◌, sym, take, arith}
use Rattle.cudf_text.specs.Working.Marks.{marks}
use Rattle.cudf_text.proofs.JoinedLemmas.{after-passed, suffix-next}
use Rattle.cudf_text.proofs.text.after_mark.Goals as goal

pub loop-mark-preserved : goal.loop-mark-preserved
loop-mark-preserved c =
    let end = c.line_end-end.ensures in
    let after = c.split_at.ensures.back in
    record {
      inside = omega (arith, c.split_at.ensures.back_len, c.loop-mark.invariant.inside);
      end = suffix-next c.args.bytes.now c.loop-mark.rest.now c.split_at.result.1.now c.line_end-end.result.next c.loop-mark.invariant.inside end.inside.2 c.loop-mark.invariant.end after;
      lines = after-passed (marks c.args.mark) c.loop-mark.rest.now _ c.split_at.result.1.now (take c.line_end-end.result.next c.loop-mark.rest.now) (rw after end.raw) end.line (sym c.is_on.ensures ∙ c.if-is_on.false)
          ∙ c.loop-mark.invariant.lines;
    }
