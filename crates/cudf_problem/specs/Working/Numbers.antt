-- Pairs of name and version, by the numbers of the names (own).
use Rattle.std.specs.Prelude.{◌≡◌, ℕ, ◌<◌, ◌==◌, Bool, ◌&&◌, List, [], length, map, position, slice_get, slice_index_or, bytes_eq, Option, Some, None, if◌then◌else◌}
use Rattle.std.specs.Borrow.{Bor}
use Rattle.indexmap.specs.IndexMap.{IndexMap, get}
use Rattle.cudf_problem.specs.declared.package.NumberedPair.{NumberedPair}
use Rattle.cudf_problem.specs.Ids.{Id}
use Rattle.cudf_problem.specs.Promises.Names.{names_of_ids}

abbrev pub texts : List (Bor (List ℕ)) → List (List ℕ)
texts names = map (λ name. name.now) names

-- the pair, by the texts of the names
abbrev pub pair_id : List (List ℕ) → NumberedPair → Id
pair_id names p = (slice_index_or names p.name [], p.version)

abbrev pub pair_ids : List (List ℕ) → List NumberedPair → List Id
pair_ids names pairs = map (pair_id names) pairs

abbrev pub is_pair : NumberedPair → NumberedPair → Bool
is_pair p q = (p.name == q.name) && (p.version == q.version)

abbrev pub version_at : List NumberedPair → ℕ → ℕ
version_at pairs index = slice_index_or (map (λ p. p.version) pairs) index 0

-- the first pair of a name, if it has the version, or else what is kept of the others
abbrev pub first_or : List NumberedPair → ℕ → Option ℕ → Option ℕ → Option ℕ
first_or pairs version None other = other
first_or pairs version (Some first) other = if version_at pairs first == version then Some first else other

-- the index that is kept of a pair
abbrev pub kept_index : List NumberedPair → List ℕ → (NumberedPair → Option ℕ) → NumberedPair → Option ℕ
kept_index pairs firsts other p = first_or pairs p.version (slice_get firsts p.name) (other p)

-- the index that is kept of a pair that isn't the first of its name
abbrev pub other_index : {S : Type 0} → IndexMap (ℕ × ℕ) ℕ S → NumberedPair → Option ℕ
other_index others p = get (λ a b. (a.0 == b.0) && (a.1 == b.1)) others (p.name, p.version)

-- what is kept of pairs
pub record AreNumbered (names : List (List ℕ)) (pairs : List NumberedPair) (firsts : List ℕ) (other : NumberedPair → Option ℕ) : Type 0 where
  -- the names are those of the pairs, each once
  pub names_are : names ≡ names_of_ids (pair_ids names pairs)
  pub once : (n : ℕ) → n < length names → position (bytes_eq (slice_index_or names n [])) names ≡ Some n
  -- each pair has one of them
  pub within : (i : ℕ) (d : NumberedPair) → i < length pairs → (slice_index_or pairs i d).name < length names
  -- each has a first pair
  pub begun : length firsts ≡ length names
  -- the index of a pair is where it is
  pub found : (p : NumberedPair) → kept_index pairs firsts other p ≡ position (is_pair p) pairs
