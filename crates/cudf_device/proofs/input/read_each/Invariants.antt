-- The readers so far are read, and all have their names.
use Rattle.std.proofs.Common.{◌≡◌, map}
use Rattle.cudf_device.specs.Readers.{names_in}
use Rattle.cudf_device.proofs.InputsLemmas.{ReadSoFar}
use Rattle.cudf_device.proofs.input.read_each.Given as goal

abbrev pub invariant-loop-source : goal.invariant-loop-source
invariant-loop-source g l = ReadSoFar g.S.Source.state l.fn.sources l.sources l.source-index (map (λ b. b.items) l.texts.items)
    × (names_in g.S.Source.state l.sources ≡ names_in g.S.Source.state l.fn.sources)
