-- The atoms of a formula, one after the other.
use Rattle.std.specs.Prelude.{ℕ, Bool, not, ◌||◌, ◌==◌, List, [], ◌∷◌, map, Option, Some, None}
use Rattle.std.specs.List.{onto_first}
use Rattle.std.specs.Str.{byte}
use Rattle.cudf_value.specs.declared.atom.AtomEnd.{AtomEnd}
use Rattle.cudf_value.specs.declared.atom.AtomEnd.TheVariants.{Text, Comma, Bar}
use Rattle.cudf_text.specs.Chars.{trim}
use Rattle.cudf_value.specs.Parts.{parts}
use Rattle.cudf_value.specs.Formulas.{PlainAtom, atom}

-- a part of a clause, with blanks or none round the atom
abbrev pub atom_part : List ℕ → Option PlainAtom
atom_part part = atom (trim part)

abbrev pub ends_atom : ℕ → Bool
ends_atom b = b == byte "," || b == byte "|"

abbrev pub is_inside : ℕ → Bool
is_inside b = not (ends_atom b)

-- the text from the end of an atom on
abbrev pub end_text : AtomEnd → List ℕ
end_text Text = []
end_text (Comma more) = byte "," ∷ more.now
end_text (Bar more) = byte "|" ∷ more.now

-- what follows a comma or a bar
abbrev pub end_rest : AtomEnd → Option (List ℕ)
end_rest Text = None
end_rest (Comma more) = Some more.now
end_rest (Bar more) = Some more.now

-- what follows a bar
abbrev pub bar_rest : AtomEnd → Option (List ℕ)
bar_rest Text = None
bar_rest (Comma more) = None
bar_rest (Bar more) = Some more.now

-- the values of the atoms, those of each clause together
abbrev pub values : List ℕ → List (List (Option PlainAtom))
values text = map (λ part. map atom_part (parts (byte "|") part)) (parts (byte ",") text)

-- the value of an atom, and those after its end
abbrev pub values_of : Option PlainAtom → AtomEnd → List (List (Option PlainAtom))
values_of value Text = (value ∷ []) ∷ []
values_of value (Comma more) = (value ∷ []) ∷ values more.now
values_of value (Bar more) = onto_first value (values more.now)
