-- The instances of each rule, and those that a proposal violates, in key order.
-- CUDF 2.0: consistent installations (depends, conflicts, keep), semantics of requests. Own: keep of features, numbers
-- of features in upgrade, unknown stanzas.
use Rattle.std.specs.Prelude.{ℕ, Bool, true, false, not, ◌==◌, nat_lt, List, [], ◌∷◌, ◌++◌, map, filter, find, bytes_eq, Option, Some, None, if◌then◌else◌}
use Rattle.std.specs.List.{list_any, flat_map, enumerate_from}
use Rattle.std.specs.Option.{option_map_or}
use Rattle.std.specs.Ordering.{is_eq, is_lt}
use Rattle.cudf_value.specs.Vpkgs.{PlainVpkg}
use Rattle.cudf_problem.specs.declared.package.Keep.{Keep}
use Rattle.cudf_problem.specs.declared.package.Keep.TheVariants.{Version, Package, Feature, Nothing}
use Rattle.cudf_problem.specs.Universe.{PlainProblem, PlainRequest}
use Rattle.cudf_problem.specs.Statuses.{PlainUnknown}
use Rattle.cudf_index.specs.Satisfaction.{Placed, without, numbers_of, satisfies, satisfies_clause, first_meeting}
use Rattle.cudf_job.specs.declared.key.Part.{Part}
use Rattle.cudf_job.specs.declared.key.Part.TheVariants as part
use Rattle.cudf_job.specs.declared.key.Rule.{Rule}
use Rattle.cudf_job.specs.declared.key.Rule.TheVariants as rule
use Rattle.cudf_job.specs.declared.key.Aspect.{Aspect}
use Rattle.cudf_job.specs.declared.key.Aspect.TheVariants.{Unsatisfied, Many, Lower}
use Rattle.cudf_job.specs.Keys.{PlainKey, key_of, part_place, key_cmp}
use Rattle.cudf_referee.specs.Instances.{PlainWhat, needs, conflicts_with, keep_version, keep_package, keep_feature, install, remove, upgrade, unknown, PlainInstance}
use Rattle.cudf_referee.specs.Proposals.{everything, holds_place, Proposal}

-- ---- the instances of each rule

-- of a package's rule, with this number
abbrev pub at_package : Placed → Rule → ℕ → PlainWhat → PlainInstance
at_package (place, p) rule number what =
    record { key = key_of (part.Package place) rule number None; line = p.line; subject = Some (p.name, p.version); what = what }

-- of a rule of the request, with this number
abbrev pub at_request : PlainRequest → Rule → ℕ → Option Aspect → PlainWhat → PlainInstance
at_request request rule number aspect what = record { key = key_of part.Request rule number aspect; line = request.line; subject = None; what = what }

-- of an unknown stanza
abbrev pub unknown_instance : PlainUnknown → PlainInstance
unknown_instance u =
    record { key = key_of part.Solution rule.Unknown u.stanza None; line = u.line; subject = Some (u.name, u.version); what = unknown }

-- ---- all of them, in key order

-- what is made of each entry and its number, from 1
abbrev pub of_each : {A B : Type 0} → (ℕ → A → B) → List A → List B
of_each make entries = map (λ e. make e.0 e.1) (enumerate_from 1 entries)

-- of a package that is to be installed: for each conjunct of `depends`, and each entry of `conflicts`
abbrev pub needed_instances : Placed → List PlainInstance
needed_instances p =
    of_each (λ number clause. at_package p rule.Depends number (needs clause)) p.1.depends
    ++ of_each (λ number v. at_package p rule.Conflicts number (conflicts_with v)) p.1.conflicts

-- of one that was installed: for the package, its name, or each entry of its `provides`
abbrev pub kept_instances : Keep → Placed → List PlainInstance
kept_instances Version p = at_package p rule.Keep 1 keep_version ∷ []
kept_instances Package p = at_package p rule.Keep 1 keep_package ∷ []
kept_instances Feature p = of_each (λ number v. at_package p rule.Keep number (keep_feature v)) p.1.provides
kept_instances Nothing p = []

abbrev pub package_instances : Proposal → Placed → List PlainInstance
package_instances s p =
    (if holds_place s.proposed p.0 then needed_instances p else [])
    ++ (if holds_place s.initial p.0 then kept_instances p.1.keep p else [])

-- of an entry of `upgrade`: one for each aspect
abbrev pub entry_instances : PlainRequest → ℕ × PlainVpkg → List PlainInstance
entry_instances r e = map (λ aspect. at_request r rule.Upgrade e.0 (Some aspect) (upgrade e.1)) (Unsatisfied ∷ Many ∷ Lower ∷ [])

abbrev pub request_instances : PlainRequest → List PlainInstance
request_instances r =
    of_each (λ number v. at_request r rule.Install number None (install v)) r.install
    ++ of_each (λ number v. at_request r rule.Remove number None (remove v)) r.remove
    ++ flat_map (entry_instances r) (enumerate_from 1 r.upgrade)

abbrev pub instances : Proposal → List PlainInstance
instances s =
    flat_map (package_instances s) (enumerate_from 1 s.problem.packages)
    ++ request_instances s.problem.request
    ++ map unknown_instance s.unknown

-- those of a problem, whatever is proposed
abbrev pub problem_instances : PlainProblem → List PlainInstance
problem_instances problem = instances (everything problem)

-- the one of a key
abbrev pub instance_of : PlainProblem → PlainKey → Option PlainInstance
instance_of problem key = find (λ i. is_eq (key_cmp i.key key)) (problem_instances problem)

-- ---- which of them are violated

-- a status less the package that a part is
abbrev pub others : Part → List Placed → List Placed
others (part.Package n) status = without n status
others _ status = status

-- the status has a package of this name
abbrev pub has_package : List Placed → List ℕ → Bool
has_package status name = list_any (λ (place, p). bytes_eq p.name name) status

-- two of the numbers are different
abbrev pub are_many : List ℕ → Bool
are_many numbers = list_any (λ m. list_any (λ n. not (m == n)) numbers) numbers

-- one of the numbers is below one of those before
abbrev pub are_lower : List ℕ → List ℕ → Bool
are_lower before numbers = list_any (λ n. list_any (λ m. nat_lt n m) before) numbers

-- upgrade: the entry isn't satisfied, its name has several numbers, or one that is lower than before
abbrev pub is_aspect_violated : Proposal → PlainVpkg → Option Aspect → Bool
is_aspect_violated s v None = false
is_aspect_violated s v (Some Unsatisfied) = not (satisfies s.proposed v)
is_aspect_violated s v (Some Many) = are_many (numbers_of v.name s.proposed)
is_aspect_violated s v (Some Lower) = are_lower (numbers_of v.name s.initial) (numbers_of v.name s.proposed)

-- whether the proposal violates an instance that says this
abbrev pub is_what_violated : Proposal → PlainInstance → PlainWhat → Bool
is_what_violated s i (needs clause) = not (satisfies_clause s.proposed clause)
is_what_violated s i (conflicts_with v) = satisfies (others i.key.part s.proposed) v
is_what_violated s i keep_version = not (holds_place s.proposed (part_place i.key.part))
is_what_violated s i keep_package = not (option_map_or (λ (name, version). has_package s.proposed name) i.subject false)
is_what_violated s i (keep_feature v) = not (satisfies s.proposed v)
is_what_violated s i (install v) = not (satisfies s.proposed v)
is_what_violated s i (remove v) = satisfies s.proposed v
is_what_violated s i (upgrade v) = is_aspect_violated s v i.key.aspect
is_what_violated s i unknown = true

abbrev pub is_violated : Proposal → PlainInstance → Bool
is_violated s i = is_what_violated s i i.what

-- the violated instances, in key order
unfoldable pub listing : Proposal → List PlainInstance
listing s = filter (is_violated s) (instances s)

-- the violated instances whose keys come after this one, which needn't be the key of an instance
abbrev pub rest : PlainKey → Proposal → List PlainInstance
rest key s = filter (λ i. is_lt (key_cmp key i.key)) (listing s)

-- ---- the package that meets an entry

abbrev pub met_by_what : List Placed → Part → PlainWhat → Option ℕ
met_by_what status own (conflicts_with v) = first_meeting (others own status) v
met_by_what status own (remove v) = first_meeting status v
met_by_what status own what = None

-- the first package, other than the instance's own, that alone satisfies what it conflicts with or what is to be removed
abbrev pub met_by : List Placed → PlainInstance → Option ℕ
met_by status i = met_by_what status i.key.part i.what
