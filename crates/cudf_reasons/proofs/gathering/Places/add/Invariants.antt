use Rattle.std.proofs.Common.{◌≡◌, ◌++◌, take}
use Rattle.cudf_reasons.specs.Reasons.{positive_places}
use Rattle.cudf_reasons.specs.Working.Gathered.{other_places}
use Rattle.cudf_reasons.proofs.gathering.Places.add.Given as goal

abbrev pub invariant-loop-literal : goal.invariant-loop-literal
invariant-loop-literal l = record {
  named : l.self.named.items ≡ l.initial.self.named.items ++ positive_places (take l.literal-index l.literals);
  met : l.self.met.items ≡ l.initial.self.met.items ++ other_places l.part (take l.literal-index l.literals);
}
