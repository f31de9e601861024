-- Instances that are where their keys say. By the key is found what judging needs beside the status.
use Rattle.std.specs.Prelude.{◌≡◌, ◌<◌, ℕ, Bool, ◌-◌, false, List, map, Some, slice_get}
use Rattle.std.specs.Option.{option_map_or}
use Rattle.cudf_index.specs.Satisfaction.{Placed, without, members}
use Rattle.cudf_job.specs.Keys.{part_place}
use Rattle.cudf_referee.specs.Instances.{PlainWhat, conflicts_with, keep_version, keep_package, upgrade, PlainInstance}
use Rattle.cudf_referee.specs.Promises.Stops.{Stop, stop_at, package_end}
use Rattle.cudf_referee.specs.Proposals.{Proposal, holds_place}
use Rattle.cudf_referee.specs.Violations.{others, has_package}
use Rattle.cudf_referee.specs.Working.Named.{has_kept_name}

-- its package is at its place, and its entry of `upgrade` at its number, by what it says
abbrev pub IsWhatLocated : Proposal → PlainInstance → PlainWhat → Type 0
IsWhatLocated s i (conflicts_with v) = (status : List Placed) → others i.key.part status ≡ without (part_place i.key.part) status
IsWhatLocated s i keep_version = (test : ℕ → Bool) → holds_place (members test s.problem.packages) (part_place i.key.part) ≡ test (part_place i.key.part)
IsWhatLocated s i keep_package = (0 < part_place i.key.part)
    × (slice_get (map (has_kept_name s.proposed) s.problem.packages) (part_place i.key.part - 1) ≡ Some (option_map_or (λ (name, version). has_package s.proposed name) i.subject false))
IsWhatLocated s i (upgrade v) = slice_get s.problem.request.upgrade (i.key.place - 1) ≡ Some v
IsWhatLocated s i what = Unit {0}

abbrev pub IsLocated : Proposal → PlainInstance → Type 0
IsLocated s i = IsWhatLocated s i i.what

-- what holds of an instance, of the stop at it
abbrev pub OfStop : (PlainInstance → Type 0) → Stop → Type 0
OfStop P (stop_at i) = P i
OfStop P (package_end place) = Unit {0}

abbrev pub IsStopLocated : Proposal → Stop → Type 0
IsStopLocated s = OfStop (IsLocated s)
