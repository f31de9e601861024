-- The clauses so far.
use Rattle.std.proofs.Common.{◌≡◌, map, take}
use Rattle.cudf_reasons.specs.Views.{needed_view}
use Rattle.cudf_check.specs.Report.{needed}
use Rattle.cudf_check.proofs.lines.reasons.needed_of.Given as goal

abbrev pub invariant-loop-number : goal.invariant-loop-number
invariant-loop-number l = map needed_view l.found.items ≡ needed l.clauses.clauses (take l.number-index l.numbers)
