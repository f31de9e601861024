use Rattle.std.proofs.Common.{ap}
use Rattle.cudf_text.proofs.StepLemmas.{extend_last-views}
use Rattle.cudf_text.specs.Working.Tracked.{TrackedProperty, TrackedValue}
use Rattle.cudf_text.proofs.line.continue_property.Goals as goal

pub returns : goal.returns
returns c =
    let old = c.in-Some.field-0 in
    extend_last-views _ _ _ old _ c.args.text.now c.in-Some.ensures.items c.in_ok-push.ensures.items
    (ap (λ (v : TrackedValue). let p : TrackedProperty = record { line = old.line; name = old.name.now; value = v } in p) c.in_ok-value.ensures)
