-- Where among the unknown stanzas those begin that a position leaves.
use Rattle.std.specs.Prelude.{◌≡◌, ◌≤◌, ℕ, List, [], length, map, filter, drop, IsTrue}
use Rattle.cudf_problem.specs.Statuses.{PlainUnknown}
use Rattle.cudf_job.specs.declared.key.Part.{Part}
use Rattle.cudf_job.specs.declared.key.Part.TheVariants.{Package, Request, Solution}
use Rattle.cudf_job.specs.Promises.Keys.{is_fitting}
use Rattle.cudf_referee.specs.Proposals.{Proposal}
use Rattle.cudf_referee.specs.Promises.Stops.{PlainPosition, at_start, at_key, at_end, Stop, walk, is_ahead}
use Rattle.cudf_referee.specs.Working.Searches.{unknown_left}

abbrev pub stanza_numbers : List PlainUnknown → List ℕ
stanza_numbers unknown = map (λ u. u.stanza) unknown

-- those that come after a key of this part, with this place
abbrev pub unknown_behind : Part → ℕ → List PlainUnknown → List PlainUnknown
unknown_behind (Package n) place unknown = unknown
unknown_behind Request place unknown = unknown
unknown_behind Solution place unknown = unknown_left place unknown

-- those that are ahead of a position
abbrev pub unknown_ahead : PlainPosition → List PlainUnknown → List PlainUnknown
unknown_ahead at_start unknown = unknown
unknown_ahead (at_key key) unknown = unknown_behind key.part key.place unknown
unknown_ahead at_end unknown = []

-- a position after a key, whose parts fit each other
abbrev pub IsFitting : PlainPosition → Type 0
IsFitting at_start = Unit {0}
IsFitting (at_key key) = IsTrue (is_fitting key)
IsFitting at_end = Unit {0}

-- they begin at this place
pub record BeginsAt (position : PlainPosition) (unknown : List PlainUnknown) (place : ℕ) : Type 0 where
  pub begins : unknown_ahead position unknown ≡ drop place unknown
  pub within : place ≤ length unknown

-- the stops ahead of a position
abbrev pub ahead : Proposal → PlainPosition → List Stop
ahead s old = filter (is_ahead old) (walk s)
