use Rattle.std.proofs.Common.{◌∙◌}
use Rattle.cudf_document.specs.Faults.{lesser}
use Rattle.cudf_document.proofs.BuilderLemmas.{place_least, is_none-from}
use Rattle.cudf_document.proofs.problem.walk.place_fault.Goals as goal

pub returns : goal.returns
returns c =
    c.lesser-2.ensures
    ∙ (λ i. lesser ((c.lesser.ensures ∙ (λ j. lesser (c.fault_if-unmarked.ensures j) (c.fault_if-late_preamble.ensures j))) i) (c.fault_if-late.ensures i))
    ∙ place_least c.args.is_first c.args.is_late c.is_none.result c.is_late_preamble.result c.args.mark c.args.line
    (is_none-from c.args.mark c.is_none.result c.is_none.ensures) c.is_late_preamble.ensures
