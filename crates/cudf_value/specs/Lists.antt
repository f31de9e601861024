-- What is left of a value while it is gone through.
use Rattle.std.specs.Prelude.{ℕ, List, [], ◌∷◌, Option, Some, None, option_map}
use Rattle.std.specs.Str.{byte}
use Rattle.cudf_value.specs.Parts.{read_parts, trimmed}
use Rattle.cudf_value.specs.Vpkgs.{PlainVpkg, vpkg}
use Rattle.cudf_value.specs.Formulas.{PlainAtom, clause}

-- the clauses of what follows a comma, if there is one
abbrev pub clauses_in : Option (List ℕ) → Option (List (List PlainAtom))
clauses_in None = Some []
clauses_in (Some text) = read_parts (byte ",") clause text

-- the vpkgs of what follows a comma, if there is one
abbrev pub vpkgs_in : Option (List ℕ) → Option (List PlainVpkg)
vpkgs_in None = Some []
vpkgs_in (Some text) = read_parts (byte ",") (trimmed vpkg) text

-- the first of these lists
abbrev pub first_list : {A : Type 0} → List (List A) → List A
first_list [] = []
first_list (xs ∷ _) = xs

-- the atoms up to the first comma of what follows a bar, if there is one
abbrev pub atoms_in : Option (List ℕ) → Option (List PlainAtom)
atoms_in None = Some []
atoms_in (Some text) = option_map first_list (read_parts (byte ",") clause text)
