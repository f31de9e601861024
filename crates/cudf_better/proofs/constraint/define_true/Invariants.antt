use Rattle.std.proofs.Common.{◌≡◌, ◌∷◌, map, take}
use Rattle.cudf_lrat.specs.Steps.{negated}
use Rattle.cudf_better.specs.Working.Definitions.{with_terms}
use Rattle.cudf_better.proofs.constraint.define_true.Given as goal

abbrev pub invariant-loop-literal : goal.invariant-loop-literal
invariant-loop-literal l = l.definitions ≡ with_terms l.initial.definitions (map (λ literal. literal ∷ map negated l.fn.none) (take l.literal-index l.some))
