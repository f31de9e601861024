-- What is judged at a stop of the walk.
use Rattle.std.specs.Prelude.{Option, Some, None, if◌then◌else◌, List, filter_map}
use Rattle.cudf_referee.specs.Instances.{PlainInstance}
use Rattle.cudf_referee.specs.Proposals.{Proposal}
use Rattle.cudf_referee.specs.Promises.Stops.{Stop, stop_at, package_end}
use Rattle.cudf_referee.specs.Violations.{is_violated}

-- what a stop of the walk gives
abbrev pub given_at : Proposal → Stop → Option PlainInstance
given_at s (stop_at i) = if is_violated s i then Some i else None
given_at s (package_end place) = None

abbrev pub all_given : Proposal → List Stop → List PlainInstance
all_given s stops = filter_map (given_at s) stops
