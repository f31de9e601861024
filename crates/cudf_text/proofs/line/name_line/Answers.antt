use Rattle.std.proofs.Common.{sym, ◌∙◌}
use Rattle.cudf_text.proofs.NameLineLemmas.{name_class, other_class}
use Rattle.cudf_text.proofs.line.name_line.Goals as goal

pub returns-then-ends_name : goal.returns-then-ends_name
returns-then-ends_name c =
    rw (c.before-then-ends_name.ensures, c.trim.ensures, c.after.ensures)
    (name_class c.args.line.now c.run_len-n.result (rw c.as_bytes-bytes.ensures.value at c.run_len-n.ensures.len)
    (rw c.as_bytes-bytes.ensures.value at (sym c.ends_name.ensures ∙ c.if-ends_name.true)))

pub returns-else-ends_name : goal.returns-else-ends_name
returns-else-ends_name c =
    other_class c.args.line.now c.run_len-n.result (rw c.as_bytes-bytes.ensures.value at c.run_len-n.ensures.len)
    (rw c.as_bytes-bytes.ensures.value at (sym c.ends_name.ensures ∙ c.if-ends_name.false))
