use Rattle.std.proofs.Common.{◌≡◌, ◌+◌, ◌≤◌, length, replicate, sym, ap, ◌∙◌, arith, subst}
use Rattle.std.specs.Prelude.{All}
use Rattle.std.proofs.lemmas.List.{length-replicate}
use Rattle.std.proofs.lemmas.List.Elements.{All-replicate}
use Rattle.cudf_lrat.proofs.StepsLemmas.{derivation-none}
use Rattle.cudf_lrat.specs.Lists.{lists_in}
use Rattle.cudf_lrat.specs.Working.Assignments.{unassigned}
use Rattle.cudf_lrat.specs.declared.assignment.AssignedValue.{AssignedValue}
use Rattle.cudf_lrat.proofs.checker.Checker.new.Goals as goal

pub returns-clause-ready : goal.returns-clause-ready
returns-clause-ready c =
    let items : c.in_ok-assignment.assignment.items ≡ replicate (c.variables.result + 1) unassigned = c.in_ok-assignment.ensures.items_if_clones_equal (λ y h. h) in
    let none : unassigned.step ≤ 0 = omega arith in
    record {
      after = derivation-none c.args.cnf.now c.new.result.numbers.items (lists_in c.new.result.clauses) (lists_in c.new.result.used) c.variables.ensures.few c.new.ensures.numbers c.new.ensures.clauses c.new.ensures.used;
      sized = ap length items ∙ length-replicate (c.variables.result + 1) unassigned ∙ ap (λ n. n + 1) c.variables.ensures.variables;
      fresh = subst (All (λ (m : AssignedValue). m.step ≤ 0)) (sym items) (All-replicate (λ (m : AssignedValue). m.step ≤ 0) (c.variables.result + 1) unassigned none);
    }
