-- What contracts see of vpkgs and formulas.
use Rattle.std.specs.Prelude.{List, [], unwrap_or, option_copied}
use Rattle.cudf_value.specs.declared.vpkg.Vpkg.{Vpkg}
use Rattle.cudf_value.specs.Vpkgs.{PlainVpkg}
use Rattle.cudf_value.specs.declared.atom.Atom.{Atom}
use Rattle.cudf_value.specs.declared.atom.Atom.TheVariants.{Yes, No, Is}
use Rattle.cudf_value.specs.declared.formula.Atoms.{Atoms}
use Rattle.cudf_value.specs.declared.formula.Clause.{Clause}
use Rattle.cudf_value.specs.declared.formula.Clauses.{Clauses}
use Rattle.cudf_value.specs.declared.formula.Formula.{Formula}
use Rattle.cudf_value.specs.declared.vpkglist.VpkgList.{VpkgList}
use Rattle.cudf_value.specs.declared.vpkglist.Vpkgs.{Vpkgs}
use Rattle.cudf_value.specs.Formulas.{PlainAtom, truth_atom, falsehood_atom, named, clause, formula, vpkglist}
use Rattle.cudf_value.specs.Lists.{clauses_in, atoms_in, vpkgs_in}

abbrev pub vpkg_view : Vpkg → PlainVpkg
vpkg_view v = record { name = v.name.now; bound = v.bound }

abbrev pub atom_view : Atom → PlainAtom
atom_view Yes = truth_atom
atom_view No = falsehood_atom
atom_view (Is v) = named (vpkg_view v)

-- the atoms that its text says
abbrev pub clause_view : Clause → List PlainAtom
clause_view c = unwrap_or (clause c.text.now) []

-- the clauses that its text says
abbrev pub formula_view : Formula → List (List PlainAtom)
formula_view f = unwrap_or (formula f.text.now) []

-- the vpkgs that its text says
abbrev pub list_view : VpkgList → List PlainVpkg
list_view l = unwrap_or (vpkglist l.text.now) []

-- the clauses that are left
abbrev pub clauses_view : Clauses → List (List PlainAtom)
clauses_view c = unwrap_or (clauses_in (option_copied c.rest)) []

-- the atoms that are left
abbrev pub atoms_view : Atoms → List PlainAtom
atoms_view a = unwrap_or (atoms_in (option_copied a.rest)) []

-- the vpkgs that are left
abbrev pub vpkgs_view : Vpkgs → List PlainVpkg
vpkgs_view v = unwrap_or (vpkgs_in (option_copied v.rest)) []
