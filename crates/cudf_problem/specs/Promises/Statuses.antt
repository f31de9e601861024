-- What a solution's readers give: its stanzas that install a pair, and a status.
use Rattle.std.specs.Prelude.{ℕ, Bool, List, map, ◌<◌, ◌≤◌, not, length, filter_map, Option, option_map, IsTrue}
use Rattle.std.specs.FinSet as set
use Rattle.std.specs.Ordering.{nat_cmp}
use Rattle.std.specs.List.{list_all, enumerate_from}
use Rattle.cudf_text.specs.Stanzas.{PlainStanza}
use Rattle.cudf_problem.specs.Ids.{Id, is_among}
use Rattle.cudf_problem.specs.Universe.{PlainProblem, package_id}
use Rattle.cudf_problem.specs.Statuses.{PlainUnknown, installed_id}

-- the stanza that installs this pair, by its number among all stanzas and its line
abbrev pub installed_with : ℕ → ℕ → Id → PlainUnknown
installed_with n line id = record { stanza = n; line = line; name = id.0; version = id.1 }

abbrev pub installed_of : ℕ × PlainStanza → Option PlainUnknown
installed_of (n, s) = option_map (installed_with n s.line) (installed_id s)

-- the stanzas that install a pair, whether or not it is in a universe
abbrev pub installed_stanzas : List PlainStanza → List PlainUnknown
installed_stanzas stanzas = filter_map installed_of (enumerate_from 1 stanzas)

-- the status holds places of the universe alone
abbrev pub IsStatusOf : PlainProblem → set.FinSet nat_cmp → Type 0
IsStatusOf problem status = (place : ℕ) → IsTrue (set.contains status place) → (0 < place) × (place ≤ length problem.packages)

-- the stanzas' pairs aren't in the universe
abbrev pub are_outside : PlainProblem → List PlainUnknown → Bool
are_outside problem unknown = list_all (λ u. not (is_among (map package_id problem.packages) (u.name, u.version))) unknown
