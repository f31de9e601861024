-- The initial and the proposed status, and what is proposed but isn't in the universe: CUDF 2.0, installations.
use Rattle.std.specs.Prelude.{ℕ, Bool, false, List, map, Option, Some, None, filter_map, option_and_then, unwrap_or, codes, if◌then◌else◌, nat_lt, true, ◌&&◌, [], ◌∷◌}
use Rattle.std.specs.List.{enumerate_from}
use Rattle.std.specs.Option.{option_map_or}
use Rattle.cudf_text.specs.Stanzas.{PlainStanza}
use Rattle.cudf_problem.specs.Documents.{value_of}
use Rattle.cudf_problem.specs.Ids.{Id, is_among, id_of}
use Rattle.cudf_problem.specs.Values.{truth_value}
use Rattle.cudf_problem.specs.Universe.{PlainProblem, package_id, package_at}

-- the package at the place is installed in the problem
abbrev pub is_initial : PlainProblem → ℕ → Bool
is_initial problem place = option_map_or (λ p. p.installed) (package_at problem place) false

-- the pair that a stanza of a solution installs, if it installs one: none takes back what another installs (own)
abbrev pub installed_id : PlainStanza → Option Id
installed_id s = if unwrap_or (value_of truth_value (codes "installed") s.properties) false then id_of s else None

-- the solution installs the pair of the package at the place
abbrev pub is_proposed : PlainProblem → List PlainStanza → ℕ → Bool
is_proposed problem stanzas place = option_map_or (λ p. is_among (filter_map installed_id stanzas) (package_id p)) (package_at problem place) false

-- a stanza that installs a pair which isn't in the universe, by its number among all stanzas (own)
pub record PlainUnknown : Type 0 where
  pub stanza : ℕ
  pub line : ℕ
  pub name : List ℕ
  pub version : ℕ

-- a stanza with its number, where it installs such a pair
abbrev pub unknown_of : PlainProblem → ℕ × PlainStanza → Option PlainUnknown
unknown_of problem (n, s) = option_and_then (λ id. if is_among (map package_id problem.packages) id then None
    else Some (record { stanza = n; line = s.line; name = id.0; version = id.1 })) (installed_id s)

abbrev pub unknown_stanzas : PlainProblem → List PlainStanza → List PlainUnknown
unknown_stanzas problem stanzas = filter_map (unknown_of problem) (enumerate_from 1 stanzas)

-- ---- statuses and unknown stanzas of a problem

-- the stanzas' numbers ascend, the first from above n
abbrev pub ascend_above : ℕ → List PlainUnknown → Bool
ascend_above n [] = true
ascend_above n (u ∷ unknown) = nat_lt n u.stanza && ascend_above u.stanza unknown
