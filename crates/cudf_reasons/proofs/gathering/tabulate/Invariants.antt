use Rattle.std.proofs.Common.{◌≡◌, ◌++◌, ◌-◌, ◌≤◌, length, drop, map}
use Rattle.cudf_reasons.specs.Reasons.{core_of}
use Rattle.cudf_reasons.specs.Views.{needed_view}
use Rattle.cudf_reasons.proofs.gathering.tabulate.Given as goal

abbrev pub invariant-loop-start : goal.invariant-loop-start
invariant-loop-start l = record {
  within : l.start ≤ length l.needed;
  core : l.table ++ core_of (map needed_view (drop l.start l.needed)) ≡ core_of (map needed_view l.needed);
}

abbrev pub decreases-loop-start : goal.decreases-loop-start
decreases-loop-start l = length l.initial.needed - l.start
