-- Contracts' view of the files that lines name.
use Rattle.std.specs.Prelude.{ℕ, ◌-◌, ◌==◌, Bool, List, [], ◌∷◌, slice_get, Option, None, Some, option_map, option_and_then, if◌then◌else◌}
use Rattle.cudf_document.specs.Details.{PlainDetail}
use Rattle.cudf_check.specs.Explanations.{listed_text, instance_added, detail_added}
use Rattle.cudf_check.specs.JobStyles.{document_style, named_style, pair_style, ranking_style, refutation_style}
use Rattle.cudf_check.specs.Naming.{Names, PlainOrigin, PlainOrigins}
use Rattle.cudf_check.specs.Styles.{Style}
use Rattle.cudf_device.specs.Device.{SourceState}
use Rattle.cudf_device.specs.Readers.{names_in}
use Rattle.cudf_check.specs.declared.naming.NamedInput.{NamedInput}
use Rattle.cudf_check.specs.declared.naming.Origin.{Origin}
use Rattle.cudf_check.specs.declared.naming.Origins.{Origins}
use Rattle.cudf_check.specs.declared.report.Document.{Document}

-- one file
abbrev pub origin_view : Origin → PlainOrigin
origin_view o = record { file = o.file.now; before = o.before }

abbrev pub origins_view : Origins → PlainOrigins
origins_view o = record { problem = option_map origin_view o.problem; solution = option_map origin_view o.solution }

-- the names of the inputs of a job
abbrev pub other_names : Option NamedInput → List (Option (List ℕ))
other_names None = []
other_names (Some given) = option_map (λ n. n.now) given.name ∷ []

abbrev pub given_names : NamedInput → Option NamedInput → Names
given_names first second = record { first = option_map (λ n. n.now) first.name; others = other_names second }

abbrev pub names_given : {S : Type 0} → (S → SourceState) → NamedInput → List S → Names
names_given state first others = record { first = option_map (λ n. n.now) first.name; others = names_in state others }

-- ---- styles

-- of a document whose faults are reported
abbrev pub style_for : Document → Style
style_for d = document_style d.explain (option_map origin_view d.origin) d.bytes.now

-- of solutions that are ranked, whatever the name of the problem is
abbrev pub entrants_style : List (Option (List ℕ)) → Style
entrants_style names = ranking_style (record { first = None; others = names })

-- with this detail of a fault
abbrev pub detailed_style : Option PlainOrigin → Option PlainDetail → Style
detailed_style origin detail = record (named_style origin) { added_to_fault = λ document f. detail_added origin detail }

-- of the package at a place, by the lines of the solution's stanzas of all packages
abbrev pub line_at : List (Option ℕ) → ℕ → Option ℕ
line_at lines place = if place == 0 then None else option_and_then (λ n. n) (slice_get lines (place - 1))

abbrev pub listed_by : Option PlainOrigin → List (Option ℕ) → ℕ → List ℕ
listed_by origin lines place = listed_text origin (line_at lines place)

-- of lines about instances
abbrev pub instance_style : Bool → PlainOrigins → List (Option ℕ) → Style
instance_style explain origins lines = record (pair_style explain origins [] []) { added_to_instance = instance_added explain (λ problem. listed_by origins.solution lines) }

-- and about those of a refutation, and the proof's fault
abbrev pub proof_style : Bool → List ℕ → Style
proof_style explain proof = refutation_style explain [] proof

-- of the instances the proof says nothing
abbrev pub reason_style : Bool → Style
reason_style explain = proof_style explain []
