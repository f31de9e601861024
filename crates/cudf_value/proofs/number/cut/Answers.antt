use Rattle.std.proofs.Common.{sym, ◌∙◌}
use Rattle.cudf_value.proofs.PartsLemmas.{split_found, split_none}
use Rattle.cudf_value.proofs.number.cut.Goals as goal

pub returns-in-Some-clause-parts : goal.returns-in-Some-clause-parts
returns-in-Some-clause-parts c =
    rw (c.before-in-Some.ensures, c.after.ensures)
    (split_found c.args.separator c.args.text.now c.in-Some.n (rw c.as_bytes.ensures.value at (sym c.find.ensures.value ∙ c.in-Some.is)))

pub returns-in-None-clause-parts : goal.returns-in-None-clause-parts
returns-in-None-clause-parts c =
    split_none c.args.separator c.args.text.now (rw c.as_bytes.ensures.value at (sym c.find.ensures.value ∙ c.in-None.is))
