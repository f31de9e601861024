-- The text of a clause, atom by atom.
use Rattle.std.proofs.Common.{◌≡◌, ℕ, List, ◌∷◌, ◌++◌, map, codes, ap, sym}
use Rattle.std.specs.Prelude.{flat_map}
use Rattle.std.proofs.lemmas.List.Folds.{flat_map-map}
use Rattle.cudf_value.specs.declared.atom.Atom.{Atom}
use Rattle.cudf_value.specs.Promises.Views.{atom_view}
use Rattle.cudf_value.specs.Formulas.{PlainAtom}
use Rattle.cudf_value.specs.Printing.{atom_text, clause_text}

-- an atom after the first
abbrev pub next_atom_text : Atom → List ℕ
next_atom_text atom = codes " | " ++ atom_text (atom_view atom)

-- all atoms after the first were printed
pub clause_text_whole : (first : Atom) (others : List Atom) (atoms : List PlainAtom) → atoms ≡ atom_view first ∷ map atom_view others
    → atom_text (atom_view first) ++ flat_map next_atom_text others ≡ clause_text atoms
clause_text_whole first others atoms is =
    rw is (ap (λ text. atom_text (atom_view first) ++ text) (sym (flat_map-map (λ a. codes " | " ++ atom_text a) atom_view others)))
