use Rattle.std.proofs.Common.{◌≡◌, ◌∷◌, map, arith}
use Rattle.std.proofs.lemmas.List.{append-nil}
use Rattle.cudf_value.specs.Promises.Views.{atom_view, clause_view}
use Rattle.cudf_value.proofs.PrintingLemmas.{clause_text_whole}
use Rattle.cudf_device.proofs.PaperLemmas.{Says-as, ◌▸◌}
use Rattle.cudf_check.proofs.lines.instance.print_clause.Goals as goal

pub returns-in-None : goal.returns-in-None
returns-in-None g c =
    let all : clause_view c.args.clause ≡ atom_view c.in-Some.first ∷ map atom_view c.loop-atom.yielded = grind (arith, append-nil) in
    Says-as _ _ _ _ _ (clause_text_whole c.in-Some.first c.loop-atom.yielded (clause_view c.args.clause) all) (c.print_atom.ensures ▸ c.loop-atom.invariant.1)
