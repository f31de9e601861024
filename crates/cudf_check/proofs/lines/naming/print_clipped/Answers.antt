use Rattle.std.proofs.Common.{true, false, sym, ◌∙◌, append-nil}
use Rattle.cudf_check.specs.Shown.{shown}
use Rattle.cudf_device.proofs.PaperLemmas.{Says-as, ◌▸◌}
use Rattle.cudf_check.proofs.ShownLemmas.{clipped-is}
use Rattle.cudf_check.proofs.lines.naming.print_clipped.Goals as goal

pub returns-then-is_cut : goal.returns-then-is_cut
returns-then-is_cut g c =
    let clip = c.clip-is_cut in
    Says-as _ _ _ _ _ (clipped-is c.args.text.now clip.result.0.now true clip.ensures.front (sym c.if-is_cut.true ∙ clip.ensures.more)) (c.print_shown.ensures ▸ c.text.ensures)

pub returns-else-is_cut : goal.returns-else-is_cut
returns-else-is_cut g c =
    let clip = c.clip-is_cut in
    Says-as _ _ _ _ _ (sym (append-nil (shown clip.result.0.now)) ∙ clipped-is c.args.text.now clip.result.0.now false clip.ensures.front (sym c.if-is_cut.false ∙ clip.ensures.more)) c.print_shown.ensures
