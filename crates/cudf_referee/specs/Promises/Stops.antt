-- What judging each instance costs, and the walk over them (own).
use Rattle.std.specs.Prelude.{ℕ, Bool, true, false, not, ◌&&◌, ◌+◌, nat_le, List, [], ◌∷◌, ◌++◌, map, filter, sum_by, Option, Some, None}
use Rattle.std.specs.List.{flat_map, enumerate_from}
use Rattle.std.specs.Ordering.{is_lt}
use Rattle.cudf_value.specs.Vpkgs.{PlainVpkg}
use Rattle.cudf_index.specs.Promises.Prices.{search_cost, clause_cost, clause_lookups, own_cost}
use Rattle.cudf_index.specs.Satisfaction.{Placed}
use Rattle.cudf_job.specs.declared.key.Part.{Part}
use Rattle.cudf_job.specs.declared.key.Part.TheVariants as part
use Rattle.cudf_job.specs.declared.key.Aspect.{Aspect}
use Rattle.cudf_job.specs.declared.key.Aspect.TheVariants.{Unsatisfied, Many, Lower}
use Rattle.cudf_job.specs.Keys.{PlainKey, part_place, key_cmp}
use Rattle.cudf_referee.specs.Instances.{PlainWhat, needs, conflicts_with, keep_version, keep_package, keep_feature, install, remove, upgrade, unknown, PlainInstance}
use Rattle.cudf_referee.specs.Proposals.{Proposal}
use Rattle.cudf_referee.specs.Violations.{package_instances, request_instances, unknown_instance}

-- ---- what judging an instance costs, in a proposed status

-- the numbers of an entry's name before, and those proposed: the least and the greatest, at two steps each
abbrev pub aspect_cost : List Placed → PlainVpkg → Option Aspect → ℕ
aspect_cost status v None = 0
aspect_cost status v (Some Unsatisfied) = search_cost status v.name
aspect_cost status v (Some Many) = 4
aspect_cost status v (Some Lower) = 4

-- by what it says
abbrev pub what_cost : List Placed → PlainInstance → PlainWhat → ℕ
what_cost status i (needs clause) = clause_cost status clause
what_cost status i (conflicts_with v) = search_cost status v.name + own_cost status (part_place i.key.part)
what_cost status i keep_version = 0
what_cost status i keep_package = 0
what_cost status i (keep_feature v) = search_cost status v.name
what_cost status i (install v) = search_cost status v.name
what_cost status i (remove v) = search_cost status v.name
what_cost status i (upgrade v) = aspect_cost status v i.key.aspect
what_cost status i unknown = 0

abbrev pub cost : List Placed → PlainInstance → ℕ
cost status i = what_cost status i i.what

-- ---- and what it costs at least

-- the least and the greatest number take a look-up each
abbrev pub aspect_look_ups : Option Aspect → ℕ
aspect_look_ups None = 0
aspect_look_ups (Some Unsatisfied) = 1
aspect_look_ups (Some Many) = 2
aspect_look_ups (Some Lower) = 2

-- the look-ups by name that judging it takes at least: of a conjunct those up to its first satisfied atom
abbrev pub what_look_ups : List Placed → PlainInstance → PlainWhat → ℕ
what_look_ups status i (needs clause) = clause_lookups status clause
what_look_ups status i (conflicts_with v) = 1
what_look_ups status i keep_version = 0
what_look_ups status i keep_package = 0
what_look_ups status i (keep_feature v) = 1
what_look_ups status i (install v) = 1
what_look_ups status i (remove v) = 1
what_look_ups status i (upgrade v) = aspect_look_ups i.key.aspect
what_look_ups status i unknown = 0

abbrev pub look_ups : List Placed → PlainInstance → ℕ
look_ups status i = what_look_ups status i i.what

-- ---- the walk over them

-- a stop of the walk: an instance, violated or not, or the end of the package at a place
pub data Stop : Type 0 where
  stop_at : PlainInstance → Stop
  package_end : ℕ → Stop

-- the walk goes by all instances in key order, and by the end of each package of the universe after the package's instances
abbrev pub package_stops : Proposal → Placed → List Stop
package_stops s p = map stop_at (package_instances s p) ++ package_end p.0 ∷ []

unfoldable pub walk : Proposal → List Stop
walk s = flat_map (package_stops s) (enumerate_from 1 s.problem.packages) ++ map stop_at (request_instances s.problem.request ++ map unknown_instance s.unknown)

-- going by a stop is one step, beside those of judging an instance: so many at most
abbrev pub stop_cost : List Placed → Stop → ℕ
stop_cost status (stop_at i) = cost status i + 1
stop_cost status (package_end place) = 1

-- and at least
abbrev pub least_cost : List Placed → Stop → ℕ
least_cost status (stop_at i) = look_ups status i + 1
least_cost status (package_end place) = 1

-- ---- positions in the walk

pub data PlainPosition : Type 0 where
  at_start : PlainPosition
  at_key : PlainKey → PlainPosition
  at_end : PlainPosition

-- the one key comes before the other
abbrev pub precedes : PlainKey → PlainKey → Bool
precedes a b = is_lt (key_cmp a b)

-- the end of a package comes after all keys of it and of those before it
abbrev pub precedes_end : Part → ℕ → Bool
precedes_end (part.Package n) place = nat_le n place
precedes_end part.Request place = false
precedes_end part.Solution place = false

-- the stop comes after the key, whether or not an instance has this key
abbrev pub is_after : PlainKey → Stop → Bool
is_after key (stop_at i) = precedes key i.key
is_after key (package_end place) = precedes_end key.part place

-- the stop is still to come
abbrev pub is_ahead : PlainPosition → Stop → Bool
is_ahead at_start stop = true
is_ahead (at_key key) stop = is_after key stop
is_ahead at_end stop = false

-- the stops after a position, up to and including another
abbrev pub stops_between : Proposal → PlainPosition → PlainPosition → List Stop
stops_between s old new = filter (λ stop. is_ahead old stop && not (is_ahead new stop)) (walk s)

-- what it costs to go from a position to another: at most, and at least
abbrev pub cost_between : Proposal → PlainPosition → PlainPosition → ℕ
cost_between s old new = sum_by (stop_cost s.proposed) (stops_between s old new)

abbrev pub least_between : Proposal → PlainPosition → PlainPosition → ℕ
least_between s old new = sum_by (least_cost s.proposed) (stops_between s old new)
