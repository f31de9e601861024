use Rattle.std.proofs.Common.{sym}
use Rattle.cudf_value.proofs.LeftLemmas.{formula_few}
use Rattle.cudf_value.proofs.formula.reading.read_formula.Goals as goal

pub invariant_of-result : goal.invariant_of-result
invariant_of-result c =
    let sound = sym c.if-is_formula_text.ensures in
    record { sound = sound; few = formula_few c.trim-text.result.now sound c.lies_in_memory.ensures }
