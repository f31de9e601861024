-- What a solution proposes, placed in a universe.
use Rattle.std.specs.Prelude.{◌≡◌, ℕ, List, map, filter_map, Option, Some, None, IsTrue, if◌then◌else◌}
use Rattle.std.specs.FinSet as set
use Rattle.cudf_text.specs.Stanzas.{PlainStanza}
use Rattle.cudf_problem.specs.declared.solution.Solution.{Solution}
use Rattle.cudf_document.specs.declared.solution.InstalledFlags.{InstalledFlags}
use Rattle.cudf_problem.specs.Ids.{Id, is_among}
use Rattle.cudf_problem.specs.Universe.{PlainProblem, package_id}
use Rattle.cudf_problem.specs.Statuses.{PlainUnknown, is_proposed, unknown_stanzas, ascend_above}
use Rattle.cudf_problem.specs.Promises.Statuses.{IsStatusOf, are_outside}
use Rattle.cudf_problem.specs.Promises.Views.{unknown_view}

-- the names and versions of the universe
abbrev pub ids_of : PlainProblem → List Id
ids_of problem = map package_id problem.packages

-- the pair that a stanza installs
abbrev pub pair_of : PlainUnknown → Id
pair_of u = (u.name, u.version)

-- the stanza, where its pair isn't in the universe
abbrev pub if_outside : PlainProblem → PlainUnknown → Option PlainUnknown
if_outside problem u = if is_among (ids_of problem) (pair_of u) then None else Some u

-- flags of the pairs that these stanzas install, and those of them that install another pair
pub record IsPlaced (problem : PlainProblem) (installed : List PlainUnknown) (p : InstalledFlags) : Type 0 where
  pub flags_are : p.flags.items ≡ map (is_among (map pair_of installed)) (ids_of problem)
  pub unknown_are : map unknown_view p.unknown.items ≡ filter_map (if_outside problem) installed

-- this is what the stanzas propose
pub record IsSolutionOf (problem : PlainProblem) (stanzas : List PlainStanza) (s : Solution) : Type 0 where
  pub status : (place : ℕ) → set.contains s.status place ≡ is_proposed problem stanzas place
  pub within : IsStatusOf problem s.status
  pub unknown : map unknown_view s.unknown.items ≡ unknown_stanzas problem stanzas
  pub ascending : IsTrue (ascend_above 0 (map unknown_view s.unknown.items))
  pub outside : IsTrue (are_outside problem (map unknown_view s.unknown.items))
