-- The places of CNF clauses.
use Rattle.std.specs.Prelude.{ℕ, Bool, not, List, map, filter, slice_index_or}
use Rattle.cudf_job.specs.Keys.{PlainKey}
use Rattle.cudf_job.specs.Working.Keys.{unknown_key}
use Rattle.cudf_job.specs.declared.key.Part.{Part}
use Rattle.cudf_lrat.specs.declared.cnf.Literal.{Literal}
use Rattle.cudf_reasons.specs.Laws.{keys_of}
use Rattle.cudf_reasons.specs.Reasons.{is_of, negative_places, same_key}
use Rattle.cudf_reasons.specs.Views.{needed_view}
use Rattle.cudf_reasons.specs.declared.gathering.NeededClause.{NeededClause}

abbrev pub literals_in : List NeededClause → List (List Literal)
literals_in needed = map (λ n. n.literals.now) needed

-- the places of its negative literals, other than the part's own
abbrev pub other_places : Part → List Literal → List ℕ
other_places part clause = filter (λ place. not (is_of place part)) (negative_places clause)

-- the CNF clause at this index has the key
abbrev pub is_at : List NeededClause → ℕ → PlainKey → Bool
is_at needed index key = same_key key (slice_index_or (keys_of (map needed_view needed)) index (unknown_key 0))
