use Rattle.std.proofs.Common.{rules, ◌++◌}
use Rattle.cudf_check.specs.Shown.{escaped, shown}
use Rattle.cudf_device.proofs.PaperLemmas.{◌▸◌}
use Rattle.cudf_check.proofs.ShownLemmas.{shown-next}
use Rattle.cudf_check.proofs.lines.naming.print_shown.Goals as goal

pub loop-before-preserved : goal.loop-before-preserved
loop-before-preserved g c =
    let so_far = c.loop-before.invariant.1 in (
      search rules,
      (
        so_far.0 ++ c.in-Some.before.now ++ escaped c.in-Some.control,
        so_far.1 ▸ c.text.ensures ▸ c.print_escaped.ensures,
        shown-next so_far.0 c.in-Some.before.now (escaped c.in-Some.control) (shown c.in-Some.after.now) _ _ c.in-Some.ensures.shown so_far.2,
      ),
    )
