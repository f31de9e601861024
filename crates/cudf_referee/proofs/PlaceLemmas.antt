-- The unknown stanzas that are ahead of a position.
use Rattle.std.proofs.Common.{◌≡◌, ℕ, true, List, ◌++◌, map, filter, refl, ap, sym, ◌∙◌, Option, append_assoc}
use Rattle.std.proofs.lemmas.List.{map-append}
use Rattle.std.specs.List.{flat_map, enumerate_from}
use Rattle.cudf_problem.specs.Statuses.{PlainUnknown}
use Rattle.cudf_job.specs.declared.key.Part.{Part}
use Rattle.cudf_job.specs.declared.key.Part.TheVariants as part
use Rattle.cudf_job.specs.declared.key.Rule.{Rule}
use Rattle.cudf_job.specs.declared.key.Rule.TheVariants as rule
use Rattle.cudf_job.specs.declared.key.Aspect.{Aspect}
use Rattle.cudf_job.specs.Keys.{key_of, is_key}
use Rattle.cudf_referee.specs.Proposals.{Proposal}
use Rattle.cudf_referee.specs.Promises.Stops.{Stop, stop_at, package_stops, walk, PlainPosition, at_start, at_key, at_end, is_after, is_ahead}
use Rattle.cudf_referee.specs.Violations.{request_instances, unknown_instance}
use Rattle.cudf_referee.specs.Working.Places.{IsFitting, unknown_behind, unknown_ahead}
use Rattle.cudf_referee.proofs.AheadLemmas.{unknown_after, all_unknown_after}
use Rattle.cudf_referee.proofs.ListLemmas.{filter-map, all_kept, none_kept}

-- ---- the stops before the unknown stanzas

abbrev pub known_stops : Proposal → List Stop
known_stops s = flat_map (package_stops s) (enumerate_from 1 s.problem.packages) ++ map stop_at (request_instances s.problem.request)

abbrev pub unknown_stops : List PlainUnknown → List Stop
unknown_stops unknown = map stop_at (map unknown_instance unknown)

pub walk-split : (s : Proposal) → walk s ≡ known_stops s ++ unknown_stops s.unknown
unfolding walk
walk-split s =
    ap (λ xs. flat_map (package_stops s) (enumerate_from 1 s.problem.packages) ++ xs) (map-append stop_at (request_instances s.problem.request) (map unknown_instance s.unknown))
    ∙ sym (append_assoc (flat_map (package_stops s) (enumerate_from 1 s.problem.packages)) (map stop_at (request_instances s.problem.request)) (unknown_stops s.unknown))

-- ---- the unknown stanzas ahead

behind_key : (p : Part) (r : Rule) (place : ℕ) (aspect : Option Aspect) (unknown : List PlainUnknown) → is_key p r place aspect ≡ true
    → filter (is_after (key_of p r place aspect)) (unknown_stops unknown) ≡ unknown_stops (unknown_behind p place unknown)
behind_key (part.Package n) r place aspect unknown h =
    filter-map (is_after (key_of (part.Package n) r place aspect)) stop_at (map unknown_instance unknown)
    ∙ ap (map stop_at) (all_unknown_after (key_of (part.Package n) r place aspect) (λ u. refl) unknown)
behind_key part.Request r place aspect unknown h =
    filter-map (is_after (key_of part.Request r place aspect)) stop_at (map unknown_instance unknown)
    ∙ ap (map stop_at) (all_unknown_after (key_of part.Request r place aspect) (λ u. refl) unknown)
behind_key part.Solution rule.Unknown place aspect unknown h =
    filter-map (is_after (key_of part.Solution rule.Unknown place aspect)) stop_at (map unknown_instance unknown)
    ∙ ap (map stop_at) (unknown_after place aspect unknown)
behind_key part.Solution rule.Depends place aspect unknown h = absurd (cc h)
behind_key part.Solution rule.Conflicts place aspect unknown h = absurd (cc h)
behind_key part.Solution rule.Keep place aspect unknown h = absurd (cc h)
behind_key part.Solution rule.Install place aspect unknown h = absurd (cc h)
behind_key part.Solution rule.Remove place aspect unknown h = absurd (cc h)
behind_key part.Solution rule.Upgrade place aspect unknown h = absurd (cc h)

pub ahead_unknown : (old : PlainPosition) (unknown : List PlainUnknown) → IsFitting old → filter (is_ahead old) (unknown_stops unknown) ≡ unknown_stops (unknown_ahead old unknown)
ahead_unknown at_start unknown fits = all_kept (is_ahead at_start) (λ x. refl) (unknown_stops unknown)
ahead_unknown (at_key key) unknown fits = behind_key key.part key.rule key.place key.aspect unknown fits
ahead_unknown at_end unknown fits = none_kept (is_ahead at_end) (λ x. refl) (unknown_stops unknown)
