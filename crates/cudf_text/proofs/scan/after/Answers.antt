use Rattle.cudf_text.proofs.Boundary.{boundary_after}
use Rattle.cudf_text.proofs.scan.after.Goals as goal

pub range_from-requires : goal.range_from-requires
range_from-requires c = λ _. boundary_after c.args.text.now c.args.n c.utf8.text c.requires.inside c.requires.ascii
