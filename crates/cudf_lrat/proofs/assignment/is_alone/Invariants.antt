use Rattle.std.proofs.Common.{◌≡◌, true, not, take}
use Rattle.std.specs.Prelude.{filter}
use Rattle.std.specs.List.{list_all}
use Rattle.cudf_lrat.specs.Steps.{is_false, is_same}
use Rattle.cudf_lrat.specs.Working.Assignments.{assigned_by}
use Rattle.cudf_lrat.proofs.assignment.is_alone.Given as goal

-- there was no other literal so far
abbrev pub invariant-loop-literal : goal.invariant-loop-literal
invariant-loop-literal l = list_all (is_same l.fn.own) (filter (λ x. not (is_false (assigned_by l.assignment l.step) x)) (take l.literal-index l.others)) ≡ true
