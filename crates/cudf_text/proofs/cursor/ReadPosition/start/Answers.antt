use Rattle.std.proofs.Common.{zero-add, length, ap}
use Rattle.cudf_text.specs.Lines.{lines}
use Rattle.cudf_text.specs.Working.Tracked.{TrackedText, whole}
use Rattle.cudf_text.proofs.cursor.ReadPosition.start.Goals as goal

pub returns-clause-left : goal.returns-clause-left
returns-clause-left c =
    let source = c.args.source.now in
    ap (λ n. let t : TrackedText = record (whole source) { lines = n } in t) (zero-add (length (lines source)))
