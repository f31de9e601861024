use Rattle.std.proofs.Common.{◌≡◌, ◌≤◌, All, false, map, take}
use Rattle.std.specs.List.{list_any}
use Rattle.cudf_lrat.specs.Steps.{is_beyond, literal_of}
use Rattle.cudf_lrat.proofs.checker.read_clause.Given as goal

abbrev pub invariant-loop-literal : goal.invariant-loop-literal
invariant-loop-literal l =
    record {
      within : list_any (is_beyond l.variables) (take l.literal-index l.literals) ≡ false;
      clause : l.clause.items ≡ map literal_of (take l.literal-index l.literals);
      variables : All (λ x. x.variable ≤ l.variables) l.clause.items;
    }
