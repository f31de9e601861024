-- What of a problem would help where an instance is violated, and what needs a package that is in the way: own.
use Rattle.std.specs.Prelude.{ℕ, Bool, not, ◌&&◌, ◌==◌, min, max, List, [], ◌∷◌, find, Option, Some, None, option_map}
use Rattle.std.specs.List.{enumerate_from, list_any}
use Rattle.std.specs.Option.{option_map_or}
use Rattle.cudf_problem.specs.Statuses.{is_initial}
use Rattle.cudf_problem.specs.Universe.{PlainProblem}
use Rattle.cudf_value.specs.Formulas.{PlainAtom}
use Rattle.cudf_index.specs.Satisfaction.{Placed, members, without, first_meeting, first_satisfying, meets_clause_alone}
use Rattle.cudf_referee.specs.Instances.{PlainWhat, needs, install, upgrade, PlainInstance}

-- the place of the first of these packages that alone satisfies the clause or the entry
abbrev pub first_helping : List Placed → PlainWhat → Option ℕ
first_helping packages (needs clause) = first_satisfying packages clause
first_helping packages (install v) = first_meeting packages v
first_helping packages (upgrade v) = first_meeting packages v
first_helping packages what = None

-- among all packages of the problem, installed or not
abbrev pub would_do : PlainProblem → PlainInstance → Option ℕ
would_do problem i = first_helping (enumerate_from 1 problem.packages) i.what

-- among those that were installed
abbrev pub was_installed : PlainProblem → PlainInstance → Option ℕ
was_installed problem i = first_helping (members (is_initial problem) problem.packages) i.what

-- ---- which package needs another one

-- the package at this place alone satisfies the clause, and no other package of the status does
abbrev pub is_only : List Placed → ℕ → List PlainAtom → Bool
is_only status place clause =
    list_any (λ p. p.0 == place && meets_clause_alone clause p) status && not (list_any (meets_clause_alone clause) (without place status))

-- the package isn't the one at this place, and has a clause of `depends` that this one alone satisfies and no other package
-- of the status does, itself included
abbrev pub needs_place : List Placed → ℕ → Placed → Bool
needs_place status place (own, p) = not (own == place) && list_any (is_only status place) p.depends

-- the place of the first package of the status that needs the one at this place
unfoldable pub needed_by : List Placed → ℕ → Option ℕ
needed_by status place = option_map (λ p. p.0) (find (needs_place status place) status)

-- ---- numbers

-- the least and the greatest of the numbers, where there are any
abbrev pub least_of : List ℕ → Option ℕ
least_of [] = None
least_of (n ∷ ns) = Some (option_map_or (min n) (least_of ns) n)

abbrev pub greatest_of : List ℕ → Option ℕ
greatest_of [] = None
greatest_of (n ∷ ns) = Some (option_map_or (max n) (greatest_of ns) n)
