-- Searches along the walk: what is found first and what that costs, and the stops that are left.
use Rattle.std.specs.Prelude.{◌≡◌, ◌≤◌, ℕ, ◌+◌, nat_lt, List, [], ◌∷◌, ◌++◌, map, filter, drop, Option, Some, None}
use Rattle.std.specs.List.{flat_map, enumerate_from}
use Rattle.cudf_problem.specs.Statuses.{PlainUnknown}
use Rattle.cudf_index.specs.Satisfaction.{Placed}
use Rattle.cudf_referee.specs.declared.referee.instances.Cursor.{Cursor}
use Rattle.cudf_referee.specs.declared.left.PackageInstancesLeft.{PackageInstancesLeft}
use Rattle.cudf_referee.specs.declared.left.RequestInstancesLeft.{RequestInstancesLeft}
use Rattle.cudf_referee.specs.Instances.{PlainInstance}
use Rattle.cudf_referee.specs.Proposals.{Proposal}
use Rattle.cudf_referee.specs.Promises.Stops.{cost, Stop, stop_at, package_end, package_stops, stop_cost, least_cost}
use Rattle.cudf_referee.specs.Promises.Walks.{Walking}
use Rattle.cudf_referee.specs.Violations.{unknown_instance}
use Rattle.cudf_referee.specs.Working.Judged.{given_at}
use Rattle.cudf_referee.specs.Working.RequestInstancesLeft.{request_left_view}
use Rattle.cudf_referee.specs.Working.PackageInstancesLeft.{left_in, left_view}

-- ---- searches

abbrev pub or_later : Option PlainInstance → Option PlainInstance → Option PlainInstance
or_later None later = later
or_later (Some i) later = Some i

-- the instance that the first of the stops gives that gives one
abbrev pub first_given : Proposal → List Stop → Option PlainInstance
first_given s [] = None
first_given s (x ∷ xs) = or_later (given_at s x) (first_given s xs)

-- nothing more, once an instance is found
abbrev pub unless_found : Option PlainInstance → ℕ → ℕ
unless_found None cost = cost
unless_found (Some i) cost = 0

-- of the stops up to and including the first that gives an instance, these numbers together
abbrev pub sum_to_first : (Stop → ℕ) → Proposal → List Stop → ℕ
sum_to_first number s [] = 0
sum_to_first number s (x ∷ xs) = number x + unless_found (given_at s x) (sum_to_first number s xs)

-- what it costs to go by them: at most, and at least
abbrev pub cost_to_first : Proposal → List Stop → ℕ
cost_to_first s stops = sum_to_first (stop_cost s.proposed) s stops

abbrev pub least_to_first : Proposal → List Stop → ℕ
least_to_first s stops = sum_to_first (least_cost s.proposed) s stops

-- a walk through all these stops found this, or else has come to the ones that are left: those before gave nothing, and are
-- paid for. It stays where it is
pub record Goes (old : Walking) (all : List Stop) (found : Option PlainInstance) (left : List Stop) (new : Walking) : Type 0 where
  pub judged : new.judged ≡ old.judged
  pub position : new.position ≡ old.position
  pub given : first_given old.judged all ≡ or_later found (first_given old.judged left)
  pub price : new.steps + unless_found found (cost_to_first old.judged left) ≤ old.steps + cost_to_first old.judged all
  pub grows : old.steps + least_to_first old.judged all ≤ new.steps + unless_found found (least_to_first old.judged left)

-- it has come to its end
abbrev pub Searches : Walking → List Stop → Option PlainInstance → Walking → Type 0
Searches old stops found new = Goes old stops found [] new

-- these stops came to this instance, and those are left after it
pub record Comes (all : List Stop) (i : PlainInstance) (left : List Stop) : Type 0 where
  pub before : List Stop
  pub is : all ≡ before ++ stop_at i ∷ left

-- or gave none, and none is left
abbrev pub ComesTo : List Stop → Option PlainInstance → List Stop → Type 0
ComesTo all None left = left ≡ []
ComesTo all (Some i) left = Comes all i left

-- ---- what is left

-- of a package, of which these instances are left
abbrev pub package_left : Placed → PackageInstancesLeft → List Stop
package_left p left = map stop_at (left_view p left) ++ package_end p.0 ∷ []

abbrev pub package_rest : Proposal → Option PackageInstancesLeft → Placed → List Stop
package_rest s left p = map stop_at (left_in s left p) ++ package_end p.0 ∷ []

-- of these packages, where of the first one these instances are left
abbrev pub packages_rest : Proposal → Option PackageInstancesLeft → List Placed → List Stop
packages_rest s left [] = []
packages_rest s left (p ∷ ps) = package_rest s left p ++ flat_map (package_stops s) ps

abbrev pub request_rest : Proposal → RequestInstancesLeft → List Stop
request_rest s left = map stop_at (request_left_view s.problem.request left)

abbrev pub unknown_rest : Proposal → ℕ → List Stop
unknown_rest s n = map stop_at (map unknown_instance (drop n s.unknown))

-- of all, after so many packages, with what is left of the next one and of the request, after so many unknown stanzas
abbrev pub stops_from : Proposal → Cursor → List Stop
stops_from s c = packages_rest s c.begun (drop c.packages (enumerate_from 1 s.problem.packages)) ++ (request_rest s c.request ++ unknown_rest s c.unknown)

-- the unknown stanzas with greater numbers
abbrev pub unknown_left : ℕ → List PlainUnknown → List PlainUnknown
unknown_left n unknown = filter (λ u. nat_lt n u.stanza) unknown
