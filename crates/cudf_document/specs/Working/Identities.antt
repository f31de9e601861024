-- The name and the version of a package, which are read before its other properties.
use Rattle.std.specs.Prelude.{◌≡◌, List, Option, option_map, option_copied, find, codes}
use Rattle.std.specs.Option.{option_zip}
use Rattle.cudf_text.specs.Stanzas.{PlainProperty}
use Rattle.cudf_document.specs.declared.package.Identity.{Identity}
use Rattle.cudf_problem.specs.Documents.{has_name, value_of}
use Rattle.cudf_problem.specs.Ids.{Id}
use Rattle.cudf_problem.specs.Values.{name_value}
use Rattle.cudf_document.specs.Working.Reads.{version_value}

-- these are the name and the version of the properties, and the line of the first `version`
pub record IsIdentity (i : Identity) (ps : List PlainProperty) : Type 0 where
  pub name_is : option_copied i.name ≡ value_of name_value (codes "package") ps
  pub version_is : i.version ≡ value_of version_value (codes "version") ps
  pub line_is : i.version_line ≡ option_map (λ p. p.line) (find (has_name (codes "version")) ps)

-- the name and the version, where there are both
abbrev pub known_id : Identity → Option Id
known_id i = option_zip (option_copied i.name) i.version
