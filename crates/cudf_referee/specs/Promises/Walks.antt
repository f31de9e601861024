-- A walk over the violated instances, as contracts see it: where it is, and what it has spent (own).
use Rattle.std.specs.Prelude.{◌≡◌, ◌≤◌, ◌+◌, ℕ, List, Option}
use Rattle.std.specs.Iterator.{YieldsFirst}
use Rattle.cudf_referee.specs.Instances.{PlainInstance}
use Rattle.cudf_referee.specs.Promises.Pages.{left_at, at_instance}
use Rattle.cudf_referee.specs.Proposals.{Proposal}
use Rattle.cudf_referee.specs.Promises.Stops.{PlainPosition, cost_between, least_between}

-- what is judged, the position, and the steps so far
pub record Walking : Type 0 where
  pub judged : Proposal
  pub position : PlainPosition
  pub steps : ℕ

-- the instances that are left
abbrev pub left : Walking → List PlainInstance
left w = left_at w.position w.judged

-- a call gives the first instance that is left, goes to it or to the end, and costs at most the way to there, and at least a
-- step for each stop and look-up on it
pub record Moves (old : Walking) (found : Option PlainInstance) (new : Walking) : Type 0 where
  pub gives : YieldsFirst left old found new
  pub position : new.position ≡ at_instance found
  pub judged : new.judged ≡ old.judged
  pub price : new.steps ≤ old.steps + cost_between old.judged old.position new.position
  pub grows : old.steps + least_between old.judged old.position new.position ≤ new.steps
