use Rattle.std.proofs.Common.{◌≡◌, ◌+◌, ◌≤◌, [], length}
use Rattle.cudf_text.specs.Lines.{lines}
use Rattle.cudf_lrat.specs.Answers.{checked_from}
use Rattle.cudf_lrat.specs.Working.Indices.{steps_in}
use Rattle.cudf_lrat.specs.Working.Ready.{IsReady}
use Rattle.cudf_lrat.proofs.checker.check_lines.Given as goal

-- what is left gives the answer
abbrev pub invariant-loop-text : goal.invariant-loop-text
invariant-loop-text l =
    record {
      ready : IsReady l.cnf l.checker;
      counted : l.line + length l.rest ≤ length l.proof;
      answer : checked_from l.cnf.variables l.cnf.clauses (steps_in l.cnf l.checker.steps) l.line (lines l.rest) ≡ checked_from l.cnf.variables l.cnf.clauses [] 0 (lines l.proof);
    }

abbrev pub decreases-loop-text : goal.decreases-loop-text
decreases-loop-text l = length l.rest
