-- Packages by their names and versions, as contracts of readers and of the universe speak of them.
use Rattle.std.specs.Prelude.{ℕ, List, Option, filter_map, option_and_then, Bool, not, [], Some, None}
use Rattle.std.specs.Option.{option_or}
use Rattle.std.specs.List.{list_all}
use Rattle.indexmap.specs.IndexSet.{insert_key}
use Rattle.cudf_text.specs.Stanzas.{PlainStanza}
use Rattle.cudf_value.specs.Formulas.{PlainAtom}
use Rattle.cudf_problem.specs.Universe.{PlainPackage, PlainProblem, package_of, package_at}
use Rattle.cudf_problem.specs.Preamble.{declared}
use Rattle.cudf_problem.specs.declared.problem.Postmark.TheVariants.{Preamble, Package}
use Rattle.cudf_problem.specs.Documents.{with_earlier, postmark, marks}
use Rattle.cudf_problem.specs.Ids.{Id, is_id, is_among}

-- what the package at a place recommends: by itself, or by the declared default
abbrev pub recommends_at : PlainProblem → ℕ → Option (List (List PlainAtom))
recommends_at problem place = option_or (option_and_then (λ p. p.recommends) (package_at problem place)) problem.recommends

-- the packages of a problem's stanzas
abbrev pub packages_in : List PlainStanza → List PlainPackage
packages_in stanzas = filter_map (package_of (declared stanzas)) stanzas

-- the pairs with one more, if there is one and it is new
abbrev pub with_id : List Id → Option Id → List Id
with_id ids None = ids
with_id ids (Some id) = insert_key is_id ids id

-- no pair occurs twice
abbrev pub are_distinct : List Id → Bool
are_distinct ids = list_all (λ x. not (is_among x.0 x.1)) (with_earlier [] ids)

abbrev pub is_preamble : PlainStanza → Bool
is_preamble s = marks Preamble (postmark s)

abbrev pub is_package : PlainStanza → Bool
is_package s = marks Package (postmark s)
