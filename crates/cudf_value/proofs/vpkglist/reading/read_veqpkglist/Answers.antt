use Rattle.std.proofs.Common.{ap, sym, ◌∙◌}
use Rattle.cudf_value.specs.Formulas.{veqpkglist}
use Rattle.cudf_value.proofs.LeftLemmas.{list_few, exact_sound, exact_same}
use Rattle.cudf_value.proofs.vpkglist.reading.read_veqpkglist.Goals as goal

pub invariant_of-result : goal.invariant_of-result
invariant_of-result c =
    let sound = exact_sound c.trim-text.result.now (sym c.if-is_veqpkglist_text.ensures) in
    record { sound = sound; few = list_few c.trim-text.result.now sound c.lies_in_memory.ensures }

pub returns-then-is_veqpkglist_text : goal.returns-then-is_veqpkglist_text
returns-then-is_veqpkglist_text c = exact_same c.trim-text.result.now (sym c.if-is_veqpkglist_text.ensures) ∙ ap veqpkglist c.trim-text.ensures
