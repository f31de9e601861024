use Rattle.std.proofs.Common.{sym, ap, ◌∙◌}
use Rattle.cudf_document.specs.Faults.{lesser}
use Rattle.cudf_document.specs.SolutionFaults.{solution_faults}
use Rattle.cudf_document.proofs.FaultLemmas.{least-none}
use Rattle.cudf_document.proofs.ProposedLemmas.{solution_least}
use Rattle.cudf_document.proofs.proposed.SolutionState.finish.Goals as goal

pub returns-in-Some-clause-fault : goal.returns-in-Some-clause-fault
returns-in-Some-clause-fault c = λ mode names text fault_is read.
    sym (solution_least mode names text c.args.self c.args.line_fault fault_is read) ∙ sym (c.lesser-2.ensures ∙ ap (lesser c.args.self.pairs.first) c.lesser.ensures) ∙ c.in-Some.is

pub returns-clause-proposed : goal.returns-clause-proposed
returns-clause-proposed c = λ mode names text fault_is read. record {
  sound = least-none (solution_faults text mode names) (sym (solution_least mode names text c.args.self c.args.line_fault fault_is read)
      ∙ sym (c.lesser-2.ensures ∙ ap (lesser c.args.self.pairs.first) c.lesser.ensures) ∙ c.in_default.is);
  installed_are = read.installed_are;
}
