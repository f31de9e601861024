use Rattle.std.proofs.Common.{◌≡◌, length, is_some}
use denote.Text.{Utf8}
use denote.Shadow.{shadow}
use Rattle.cudf_value.proofs.AtomLemmas.{formula_in}
use Rattle.cudf_value.proofs.formula.are_atoms.Given as goal

abbrev pub invariant-atoms : goal.invariant-atoms
invariant-atoms l = shadow (Utf8 l.rest) × (is_some (formula_in l.rest) ≡ is_some (formula_in l.text))

abbrev pub decreases-atoms : goal.decreases-atoms
decreases-atoms l = length l.rest
