use Rattle.std.proofs.Common.{◌≡◌, true, option_map, sym}
use Rattle.cudf_problem.specs.Documents.{is_empty}
use Rattle.cudf_job.specs.KeyViews.{key_view}
use Rattle.cudf_referee.specs.Violations.{listing}
use Rattle.cudf_check.specs.Working.Named.{instance_style}
use Rattle.cudf_check.proofs.PageLemmas.{no-page}
use Rattle.cudf_device.proofs.PaperLemmas.{Says-as, Says-none}
use Rattle.cudf_check.proofs.lines.judged.print_found.Goals as goal

pub returns-in-Check : goal.returns-in-Check
returns-in-Check g c =
    let s = c.args.scribe.now.judged in
    let none : is_empty (listing s) ≡ true = cc in
    rw c.in-Check.is (Says-as _ _ _ _ _ (sym (no-page (instance_style c.in-Check.explain c.args.scribe.now.origins c.args.scribe.now.lines) s (option_map key_view c.in-Check.after) c.in-Check.limit none)) (Says-none _ _))
