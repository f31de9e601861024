-- The names of packages, each once (own).
use Rattle.std.specs.Prelude.{List, [], ℕ, map, bytes_eq}
use Rattle.indexmap.specs.IndexSet.{insert_all}
use Rattle.cudf_problem.specs.Ids.{Id}
use Rattle.cudf_problem.specs.Universe.{PlainPackage, package_id}

-- those of pairs, in the order in which they come first: the number of a name is its place among them, from 0
abbrev pub names_of_ids : List Id → List (List ℕ)
names_of_ids ids = insert_all bytes_eq [] (map (λ id. id.0) ids)

-- those of the packages of a universe
abbrev pub names_in : List PlainPackage → List (List ℕ)
names_in packages = names_of_ids (map package_id packages)
