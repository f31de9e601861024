-- What is kept of the stanzas of a problem on the walk.
use Rattle.std.specs.Prelude.{◌≡◌, Bool, true, List, map, option_map, IsSome}
use Rattle.cudf_text.specs.Stanzas.{PlainStanza}
use Rattle.cudf_document.specs.declared.problem.keeping.ProblemBuilder.{ProblemBuilder}
use Rattle.cudf_document.specs.declared.problem.walk.ProblemState.{ProblemState}
use Rattle.cudf_problem.specs.Promises.Packages.{are_distinct, packages_in}
use Rattle.cudf_problem.specs.Universe.{package_id}
use Rattle.cudf_document.specs.Working.Judging.{request_in}
use Rattle.cudf_problem.specs.Promises.Views.{package_view, request_view}
use Rattle.cudf_document.specs.Working.ProblemBuilders.{PlainBuilder}

-- the request of the stanzas, and their packages, if packages are kept
pub record AreParts (keeps : Bool) (before : List PlainStanza) (p : ProblemBuilder) : Type 0 where
  pub keeps_is : p.keeps ≡ keeps
  pub packages_are : keeps ≡ true → map package_view p.packages.items ≡ packages_in before
  pub request_is : option_map request_view p.request ≡ request_in before

-- ---- the end of a walk

-- what was known and kept on it
abbrev pub gathered_of : ProblemState → ProblemBuilder → PlainBuilder
gathered_of w p = record { declared = w.declarations; ids = w.ids; packages = map package_view p.packages.items; request = option_map request_view p.request }

-- a problem can be made of that: there is a request, and no package twice
pub record IsReady (w : ProblemState) (p : ProblemBuilder) : Type 0 where
  pub requested : IsSome p.request
  pub ids_are : w.ids ≡ map package_id (map package_view p.packages.items)
  pub distinct : are_distinct w.ids ≡ true
