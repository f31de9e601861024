use Rattle.std.proofs.Common.{◌≡◌, ℕ, List, Option, Some, None, option_map, option_and_then, refl, ap, ◌∙◌}
use Rattle.cudf_check.specs.Explanations.{listed_text, said_of}
use Rattle.cudf_check.specs.Naming.{PlainOrigin}
use Rattle.cudf_check.specs.Working.Named.{line_at, listed_by, origin_view}
use Rattle.cudf_device.proofs.PaperLemmas.{Says-as}
use Rattle.cudf_check.proofs.lines.naming.print_listed.Goals as goal

at_place : (origin : Option PlainOrigin) (lines : List (Option ℕ)) (place : Option ℕ) → listed_text origin (option_and_then (line_at lines) place) ≡ said_of (listed_by origin lines) place
at_place origin lines None = refl
at_place origin lines (Some p) = refl

pub returns : goal.returns
returns g c =
    let origin = option_map origin_view c.args.listed.origin in
    Says-as _ _ _ _ _ (ap (listed_text origin) c.line_at.ensures ∙ at_place origin c.args.listed.lines.now c.args.place) c.print_line.ensures
