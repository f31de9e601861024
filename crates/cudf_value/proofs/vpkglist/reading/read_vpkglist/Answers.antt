use Rattle.std.proofs.Common.{sym}
use Rattle.cudf_value.proofs.LeftLemmas.{list_few}
use Rattle.cudf_value.proofs.vpkglist.reading.read_vpkglist.Goals as goal

pub invariant_of-result : goal.invariant_of-result
invariant_of-result c =
    let sound = sym c.if-is_vpkglist_text.ensures in
    record { sound = sound; few = list_few c.trim-text.result.now sound c.lies_in_memory.ensures }
