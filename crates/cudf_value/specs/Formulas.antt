-- The types `vpkgformula`, `vpkglist` and `veqpkglist` (the type library).
use Rattle.std.specs.Prelude.{ℕ, List, Option, Some, option_map, bytes_eq, codes, if◌then◌else◌}
use Rattle.std.specs.Str.{byte}
use Rattle.cudf_value.specs.Parts.{trimmed, read_parts, comma_list}
use Rattle.cudf_value.specs.Vpkgs.{PlainVpkg, vpkg, veqpkg}

-- an atom: `true!`, `false!` or a vpkg
pub data PlainAtom : Type 0 where
  truth_atom : PlainAtom
  falsehood_atom : PlainAtom
  named : PlainVpkg → PlainAtom

-- the constants are written just so, and any other atom is a vpkg
abbrev pub atom : List ℕ → Option PlainAtom
atom text = if bytes_eq text (codes "true!") then Some truth_atom
    else (if bytes_eq text (codes "false!") then Some falsehood_atom else option_map named (vpkg text))

-- a clause: atoms between `|`, with blanks or none round each; a constant may be beside other atoms (own)
abbrev pub clause : List ℕ → Option (List PlainAtom)
clause text = read_parts (byte "|") (trimmed atom) text

-- a formula: clauses between commas; the empty text has none (own)
unfoldable pub formula : List ℕ → Option (List (List PlainAtom))
formula text = comma_list clause text

-- vpkgs between commas, with blanks or none round each
unfoldable pub vpkglist : List ℕ → Option (List PlainVpkg)
vpkglist text = comma_list (trimmed vpkg) text

-- the same of veqpkgs
unfoldable pub veqpkglist : List ℕ → Option (List PlainVpkg)
veqpkglist text = comma_list (trimmed veqpkg) text
