-- How vpkgs, atoms and clauses are printed: spaces round an operator and round `|`, numbers without leading zeros (own).
use Rattle.std.specs.Prelude.{ℕ, List, [], ◌++◌, Option, Some, None, codes, decimal}
use Rattle.std.specs.List.{join_by}
use Rattle.cudf_value.specs.declared.vpkg.Relop.{Relop}
use Rattle.cudf_value.specs.Vpkgs.{PlainVpkg, relop_text}
use Rattle.cudf_value.specs.Formulas.{PlainAtom, truth_atom, falsehood_atom, named}

-- a bound, with the space before it
abbrev pub bound_text : Option (Relop × ℕ) → List ℕ
bound_text None = []
bound_text (Some (r, n)) = codes " " ++ relop_text r ++ codes " " ++ decimal n

-- a vpkg, as `wheel` or `wheel > 2`
abbrev pub vpkg_text : PlainVpkg → List ℕ
vpkg_text v = v.name ++ bound_text v.bound

abbrev pub atom_text : PlainAtom → List ℕ
atom_text truth_atom = codes "true!"
atom_text falsehood_atom = codes "false!"
atom_text (named v) = vpkg_text v

-- a clause, as `wheel > 2 | true!`
abbrev pub clause_text : List PlainAtom → List ℕ
clause_text atoms = join_by atom_text (codes " | ") atoms
