-- The core of a refutation as a list to be read: which instances of rules, each once, in which order, and which packages
-- each is met by. Own.
use Rattle.std.specs.Prelude.{ℕ, zero, suc, ◌+◌, Bool, true, false, not, ◌&&◌, ◌==◌, nat_lt, List, [], ◌∷◌, ◌++◌, length, map, filter, Option, Some, None, slice_get, if◌then◌else◌}
use Rattle.std.specs.List.{flat_map, fold, list_any}
use Rattle.std.specs.Ordering.{is_eq}
use Rattle.cudf_job.specs.declared.key.Part.{Part}
use Rattle.cudf_job.specs.declared.key.Part.TheVariants.{Package, Request}
use Rattle.cudf_job.specs.declared.key.Rule.{Rule}
use Rattle.cudf_job.specs.declared.key.Rule.TheVariants.{Depends, Conflicts, Keep}
use Rattle.cudf_job.specs.Keys.{PlainKey, key_cmp}
use Rattle.cudf_lrat.specs.Lines.{is_empty}
use Rattle.cudf_lrat.specs.declared.cnf.Literal.{Literal}

-- ---- the instances of the needed CNF clauses

-- a CNF clause, beside the key of its instance
abbrev pub Keyed : Type 0
Keyed = PlainKey × List Literal

-- an instance with its CNF clauses
pub record Instance : Type 0 where
  pub key : PlainKey
  pub clauses : List (List Literal)

abbrev pub same_key : PlainKey → PlainKey → Bool
same_key a b = is_eq (key_cmp a b)

-- a CNF clause before those of other instances: one more of the first of these, or the only one of its own
abbrev pub with_clause : Keyed → List Instance → List Instance
with_clause needed [] = (record { key = needed.0; clauses = needed.1 ∷ [] }) ∷ []
with_clause needed (first ∷ later) =
    if same_key needed.0 first.key
    then (record { key = needed.0; clauses = needed.1 ∷ first.clauses }) ∷ later
    else (record { key = needed.0; clauses = needed.1 ∷ [] }) ∷ first ∷ later

-- adjacent CNF clauses of one key belong to one instance
abbrev pub grouped : List Keyed → List Instance
grouped [] = []
grouped (needed ∷ more) = with_clause needed (grouped more)

-- ---- what is reported of an instance

-- its key, the packages that its CNF clauses name positively, and those that it is met by; packages by place
pub record PlainReason : Type 0 where
  pub key : PlainKey
  pub named : List ℕ
  pub met : List ℕ

abbrev pub positive_places : List Literal → List ℕ
positive_places clause = map (λ l. l.variable) (filter (λ l. l.positive) clause)

abbrev pub negative_places : List Literal → List ℕ
negative_places clause = map (λ l. l.variable) (filter (λ l. not l.positive) clause)

-- of the package at this place
abbrev pub is_of : ℕ → Part → Bool
is_of place (Package n) = n == place
is_of place part = false

-- a place put into an ascending list, unless it is there already
abbrev pub with_place : ℕ → List ℕ → List ℕ
with_place place [] = place ∷ []
with_place place (first ∷ later) =
    if nat_lt place first then place ∷ first ∷ later
    else if place == first then first ∷ later
    else first ∷ with_place place later

-- ascending, each once
abbrev pub ascending : List ℕ → List ℕ
ascending [] = []
ascending (place ∷ places) = with_place place (ascending places)

-- it is met by the packages that its CNF clauses name negatively, other than its own
abbrev pub met_by : Instance → List ℕ
met_by instance = ascending (filter (λ place. not (is_of place instance.key.part)) (flat_map negative_places instance.clauses))

abbrev pub reason_of : Instance → PlainReason
reason_of instance = record {
  key = instance.key;
  named = flat_map positive_places instance.clauses;
  met = met_by instance;
}

-- the core, by key
abbrev pub core_of : List Keyed → List PlainReason
core_of needed = map reason_of (grouped needed)

-- ---- their order

abbrev pub is_request : Part → Bool
is_request Request = true
is_request part = false

abbrev pub is_keep : Rule → Bool
is_keep Keep = true
is_keep rule = false

abbrev pub is_depends_or_conflicts : Rule → Bool
is_depends_or_conflicts Depends = true
is_depends_or_conflicts Conflicts = true
is_depends_or_conflicts rule = false

-- an instance of the request without a negative literal: the request has no package of its own, so such a one is met by none
abbrev pub is_asked : PlainReason → Bool
is_asked reason = is_request reason.key.part && is_empty reason.met

abbrev pub is_kept : PlainReason → Bool
is_kept reason = is_keep reason.key.rule

-- an instance of depends or conflicts of the package at this place
abbrev pub is_brought_by : ℕ → PlainReason → Bool
is_brought_by place reason = is_of place reason.key.part && is_depends_or_conflicts reason.key.rule

-- those that the package at this place brings in, by key
abbrev pub brought : List PlainReason → ℕ → List PlainReason
brought core place = filter (is_brought_by place) core

-- those of the packages that the reason names, package by package in its order, which is that of places
abbrev pub brings : List PlainReason → PlainReason → List PlainReason
brings core reason = flat_map (brought core) reason.named

-- none of those that were reported has its key
abbrev pub is_new : List PlainReason → PlainReason → Bool
is_new told reason = not (list_any (λ earlier. same_key earlier.key reason.key) told)

-- one more is reported, unless it was
abbrev pub with_reason : List PlainReason → PlainReason → List PlainReason
with_reason told reason = if is_new told reason then told ++ reason ∷ [] else told

-- these are reported one after the other
abbrev pub with_reasons : List PlainReason → List PlainReason → List PlainReason
with_reasons told reasons = fold with_reason told reasons

-- those that a reason brings in are reported
abbrev pub with_brought : List PlainReason → List PlainReason → Option PlainReason → List PlainReason
with_brought core told None = told
with_brought core told (Some reason) = with_reasons told (brings core reason)

-- Breadth first: each reason in turn, in the order in which they are reported and from this index on, brings in others, which are
-- reported after all so far. As many steps as the core has reasons are enough (Laws: StepsAreEnough).
abbrev pub walk : ℕ → List PlainReason → ℕ → List PlainReason → List PlainReason
walk zero core index told = told
walk (suc steps) core index told = walk steps core (index + 1) (with_brought core told (slice_get told index))

-- what is asked, then what is kept, each by key
abbrev pub roots_of : List PlainReason → List PlainReason
roots_of core = filter is_asked core ++ filter is_kept core

-- these, and all that they bring in
abbrev pub told_of : List PlainReason → List PlainReason
told_of core = walk (length core) core 0 (with_reasons [] (roots_of core))

-- then what is left, by key
abbrev pub in_order : List PlainReason → List PlainReason
in_order core = with_reasons (told_of core) core

abbrev pub reasons_of : List Keyed → List PlainReason
reasons_of needed = in_order (core_of needed)
