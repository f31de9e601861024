-- Pages of the listing, each continued after a key, and what a page costs at most (own).
use Rattle.std.specs.Prelude.{◌≡◌, ℕ, ◌+◌, ◌-◌, List, [], ◌∷◌, ◌++◌, length, map, take, slice_get, Option, Some, None, option_and_then}
use Rattle.cudf_index.specs.Promises.Prices.{digits}
use Rattle.cudf_job.specs.declared.key.Part.{Part}
use Rattle.cudf_job.specs.declared.key.Part.TheVariants.{Package, Request, Solution}
use Rattle.cudf_referee.specs.Instances.{PlainInstance}
use Rattle.cudf_job.specs.Keys.{PlainKey, key_text}
use Rattle.cudf_job.specs.Promises.Keys.{IsWritable}
use Rattle.cudf_referee.specs.Proposals.{Proposal}
use Rattle.cudf_referee.specs.Violations.{listing, rest}
use Rattle.cudf_referee.specs.Promises.Stops.{PlainPosition, at_start, at_key, at_end, cost_between}

-- ---- what is left of the listing

-- the instances after a position
abbrev pub left_at : PlainPosition → Proposal → List PlainInstance
left_at at_start s = listing s
left_at (at_key key) s = rest key s
left_at at_end s = []

-- ---- pages

-- after a key, or at the start
abbrev pub behind : Option PlainKey → PlainPosition
behind None = at_start
behind (Some key) = at_key key

-- the page of n instances after a key, or from the start
abbrev pub page : Proposal → Option PlainKey → ℕ → List PlainInstance
page s key n = take n (left_at (behind key) s)

-- the last key of a page, or the key before it where the page is empty
abbrev pub last_key : Option PlainKey → List PlainInstance → Option PlainKey
last_key key [] = key
last_key key (i ∷ is) = last_key (Some i.key) is

-- the key that is read of the text of the last one
abbrev pub next_key : (List ℕ → Option PlainKey) → Option PlainKey → List PlainInstance → Option PlainKey
next_key read key is = option_and_then (λ last. read (key_text last)) (last_key key is)

-- the pages of these sizes, each continued after the key that is read of the text of the last key
abbrev pub pages : (List ℕ → Option PlainKey) → Proposal → Option PlainKey → List ℕ → List (List PlainInstance)
pages read s key [] = []
pages read s key (n ∷ sizes) = let is = page s key n in is ∷ pages read s (next_key read key is) sizes

-- what reads each key that can be written from its text, as `Key::parse` does
abbrev pub ReadsKeys : (List ℕ → Option PlainKey) → Type 0
ReadsKeys read = (key : PlainKey) → IsWritable key → read (key_text key) ≡ Some key

-- ---- what a page costs

-- at the instance, if there is one, else at the end
abbrev pub at_instance : Option PlainInstance → PlainPosition
at_instance None = at_end
at_instance (Some i) = at_key i.key

-- the steps that halving needs at least to find the first unknown stanza after a key: none where that isn't of the solution
abbrev pub least_search : Part → ℕ → ℕ
least_search (Package n) len = 0
least_search Request len = 0
least_search Solution len = digits (len + 1) - 1

-- the search for the first unknown stanza, and the way to instance n + 1 of what is left, or to the end
abbrev pub page_bound : Proposal → Option PlainKey → ℕ → ℕ
page_bound s key n = digits (length s.unknown) + cost_between s (behind key) (at_instance (slice_get (left_at (behind key) s) n))

-- where the calls for a page of n go, one after another: to n + 1 of the instances that are left, or to all of them and the end
abbrev pub calls : List PlainInstance → ℕ → List PlainPosition
calls is n = take (n + 1) (map (λ i. at_key i.key) is ++ at_end ∷ [])

-- what it costs to go from a position to these, one after another
abbrev pub cost_along : Proposal → PlainPosition → List PlainPosition → ℕ
cost_along s old [] = 0
cost_along s old (new ∷ more) = cost_between s old new + cost_along s new more

-- the prices of all calls for a page
abbrev pub page_price : Proposal → Option PlainKey → ℕ → ℕ
page_price s key n = digits (length s.unknown) + cost_along s (behind key) (calls (left_at (behind key) s) n)
