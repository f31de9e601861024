use Rattle.std.proofs.Common.{◌≡◌, ◌≤◌, ◌-◌, ◌++◌, drop, length}
use Rattle.cudf_better.specs.Cardinality.{evens}
use Rattle.cudf_better.proofs.network.every_second.Given as goal

abbrev pub invariant-loop-i : goal.invariant-loop-i
invariant-loop-i l = record {
  found : l.found.items ++ evens (drop l.i l.variables) ≡ evens (drop l.fn.from l.variables);
  within : l.i ≤ length l.variables;
}

abbrev pub decreases-loop-i : goal.decreases-loop-i
decreases-loop-i l = length l.variables - l.i
