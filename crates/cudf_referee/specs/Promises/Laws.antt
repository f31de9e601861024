-- Laws of texts of keys and of pages, over the definitions alone: own.
use Rattle.std.specs.Prelude.{◌≡◌, ◌≤◌, ◌==◌, ◌&&◌, ℕ, Bool, true, false, not, List, [], All, length, take, sum, Option, Some, None, IsTrue}
use Rattle.std.specs.List.{flat_map, list_any}
use Rattle.cudf_value.specs.Formulas.{PlainAtom}
use Rattle.cudf_problem.specs.Universe.{PlainProblem}
use Rattle.cudf_problem.specs.Statuses.{PlainUnknown, ascend_above, is_initial}
use Rattle.cudf_index.specs.Satisfaction.{Placed, members, without, satisfies, satisfies_clause}
use Rattle.cudf_job.specs.Keys.{PlainKey, key_text}
use Rattle.cudf_job.specs.Promises.Keys.{IsWritable}
use Rattle.cudf_referee.specs.Promises.Pages.{pages, ReadsKeys, page_bound, page_price}
use Rattle.cudf_referee.specs.Explanations.{is_only, was_installed, would_do}
use Rattle.cudf_referee.specs.Instances.{PlainInstance, PlainWhat, needs, install, upgrade}
use Rattle.cudf_referee.specs.Proposals.{proposal}
use Rattle.cudf_referee.specs.Violations.{listing}

-- keys that can be written are equal where their texts are
abbrev pub TextsTellKeys : Type 0
TextsTellKeys = (a b : PlainKey) → IsWritable a → IsWritable b → key_text a ≡ key_text b → a ≡ b

-- for every list of sizes the pages, each continued by the key that was printed and read, are joined the beginning of the
-- listing, whose keys can be written
abbrev pub PagesJoin : Type 0
PagesJoin = (read : List ℕ → Option PlainKey) → ReadsKeys read
    → (problem : PlainProblem) (was_installed is_installed : ℕ → Bool) (unknown : List PlainUnknown)
    → IsTrue (ascend_above 0 unknown)
    → let s = proposal problem was_installed is_installed unknown in
    All (λ i. IsWritable i.key) (listing s)
    → (sizes : List ℕ) → flat_map (λ is. is) (pages read s None sizes) ≡ take (sum sizes) (listing s)

-- and the whole of it, where the sizes suffice
abbrev pub PagesSuffice : Type 0
PagesSuffice = (read : List ℕ → Option PlainKey) → ReadsKeys read
    → (problem : PlainProblem) (was_installed is_installed : ℕ → Bool) (unknown : List PlainUnknown)
    → IsTrue (ascend_above 0 unknown)
    → let s = proposal problem was_installed is_installed unknown in
    All (λ i. IsWritable i.key) (listing s)
    → (sizes : List ℕ) → length (listing s) ≤ sum sizes → flat_map (λ is. is) (pages read s None sizes) ≡ listing s

-- the prices of the calls for a page, after any key or from the start, add up to at most its bound
abbrev pub PagesAreBound : Type 0
PagesAreBound = (problem : PlainProblem) (was_installed is_installed : ℕ → Bool) (unknown : List PlainUnknown)
    → IsTrue (ascend_above 0 unknown)
    → let s = proposal problem was_installed is_installed unknown in
    (key : Option PlainKey) (n : ℕ) → page_price s key n ≤ page_bound s key n

-- the status satisfies the clause or the entry of an instance of depends, install or upgrade
abbrev pub satisfies_what : List Placed → PlainWhat → Bool
satisfies_what status (needs clause) = satisfies_clause status clause
satisfies_what status (install v) = satisfies status v
satisfies_what status (upgrade v) = satisfies status v
satisfies_what status what = false

-- the status of the package alone that would do satisfies it
abbrev pub WouldDo : Type 0
WouldDo = (problem : PlainProblem) (i : PlainInstance) (place : ℕ) → would_do problem i ≡ Some place → satisfies_what (members (λ n. n == place) problem.packages) i.what ≡ true

-- so does that of the package that was installed, and it was
abbrev pub WasInstalled : Type 0
WasInstalled = (problem : PlainProblem) (i : PlainInstance) (place : ℕ) → was_installed problem i ≡ Some place
    → (is_initial problem place ≡ true) × (satisfies_what (members (λ n. n == place) problem.packages) i.what ≡ true)

-- where no package of the problem alone would do, no status of it satisfies the clause or the entry, unless the empty one does
abbrev pub NothingDoes : Type 0
NothingDoes = (problem : PlainProblem) (is_installed : ℕ → Bool) (i : PlainInstance) → satisfies_what [] i.what ≡ false
    → would_do problem i ≡ None → satisfies_what (members is_installed problem.packages) i.what ≡ false

-- in a status that has another package too, the one at a place is the only one that alone satisfies a clause exactly where
-- the status satisfies the clause, and without that package doesn't
abbrev pub NeededIsMissed : Type 0
NeededIsMissed = (status : List Placed) (place : ℕ) (clause : List PlainAtom) → list_any (λ p. not (p.0 == place)) status ≡ true
    → is_only status place clause ≡ (satisfies_clause status clause && not (satisfies_clause (without place status) clause))
