-- Name and version, which together identify a package: CUDF 2.0, universes.
use Rattle.std.specs.Prelude.{ℕ, Bool, false, ◌&&◌, ◌==◌, List, Option, None, bytes_eq, codes, if◌then◌else◌}
use Rattle.std.specs.List.{list_any}
use Rattle.std.specs.Option.{option_map_or, option_zip}
use Rattle.cudf_text.specs.Stanzas.{PlainStanza}
use Rattle.cudf_value.specs.Parts.{trimmed}
use Rattle.cudf_value.specs.Numbers.{positive}
use Rattle.cudf_problem.specs.declared.problem.Postmark.TheVariants.{Package}
use Rattle.cudf_problem.specs.Documents.{postmark, marks, value_of}
use Rattle.cudf_problem.specs.Values.{name_value}

abbrev pub Id : Type 0
Id = List ℕ × ℕ

abbrev pub is_id : Id → Id → Bool
is_id x y = bytes_eq x.0 y.0 && x.1 == y.1

-- the pair is one of these
abbrev pub is_among : List Id → Id → Bool
is_among ids id = list_any (is_id id) ids

-- there is a pair, and it is one of these
abbrev pub is_known : List Id → Option Id → Bool
is_known ids id = option_map_or (is_among ids) id false

-- the name and the version of a package stanza, where both are of their types
abbrev pub id_of : PlainStanza → Option Id
id_of s = if marks Package (postmark s)
    then option_zip (value_of name_value (codes "package") s.properties) (value_of (trimmed positive) (codes "version") s.properties) else None
