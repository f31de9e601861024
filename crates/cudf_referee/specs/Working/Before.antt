-- The greatest number that the initial status gives of a name, as it is gathered.
use Rattle.std.specs.Prelude.{ℕ, max, List, [], ◌∷◌, bytes_eq, filter_map, Option, Some, None, if◌then◌else◌}
use Rattle.indexmap.specs.IndexMap.{get_by}
use Rattle.cudf_value.specs.Vpkgs.{PlainVpkg}
use Rattle.cudf_problem.specs.Ids.{Id}
use Rattle.cudf_index.specs.Satisfaction.{Placed, entry_pair, gives}
use Rattle.cudf_referee.specs.declared.referee.NumberedNames.{NumberedNames}

-- the number that is kept of a name
abbrev pub kept_greatest : List ℕ → NumberedNames → Option ℕ
kept_greatest f kept = get_by (λ k. bytes_eq f k.now) kept.greatest

-- the greatest with one number more
abbrev pub with_number : Option ℕ → ℕ → Option ℕ
with_number None n = Some n
with_number (Some m) n = Some (max m n)

-- the greatest of a name, with the numbers of that name in more pairs
unfoldable pub with_pairs : List ℕ → List Id → Option ℕ → Option ℕ
with_pairs f [] greatest = greatest
with_pairs f (pair ∷ pairs) greatest = with_pairs f pairs (if bytes_eq pair.0 f then with_number greatest pair.1 else greatest)

-- the same, with the entries of a package's `provides`
abbrev pub with_entries : List ℕ → List PlainVpkg → Option ℕ → Option ℕ
with_entries f entries greatest = with_pairs f (filter_map entry_pair entries) greatest

-- the greatest number that a status gives of an entry's name
abbrev pub greatest_before : List Placed → PlainVpkg → Option ℕ
greatest_before status v = with_pairs v.name (gives status) None
