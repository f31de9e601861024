use Rattle.std.proofs.Common.{[], ◌∷◌, sym, append_assoc, codes}
use Rattle.std.specs.List.{flat_map}
use Rattle.cudf_check.specs.Report.{literal_text}
use Rattle.cudf_device.proofs.PaperLemmas.{Says-as, ◌▸◌}
use Rattle.cudf_check.proofs.lines.dimacs.print_clause.Goals as goal

pub returns : goal.returns
returns g c = Says-as _ _ _ _ _ (sym (append_assoc (flat_map literal_text c.args.literals.now) (codes "0") (10 ∷ []))) (c.print_literals.ensures ▸ c.text.ensures)
