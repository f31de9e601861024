-- Where the walk over the instances is after a page, and what it has spent.
use Rattle.std.specs.Prelude.{◌≡◌, ◌≤◌, ◌+◌, ◌⊎◌, ℕ, Bool, true, false, List, [], ◌∷◌, ◌++◌, codes, length, take, drop, map, IsTrue, option_map, Option, Some, None, if◌then◌else◌}
use Rattle.std.specs.List.{last_or}
use Rattle.std.specs.Option.{option_map_or}
use Rattle.cudf_problem.specs.Documents.{is_empty}
use Rattle.cudf_job.specs.Keys.{PlainKey, key_text, ascend}
use Rattle.cudf_referee.specs.Promises.Pages.{cost_along}
use Rattle.cudf_referee.specs.Promises.Stops.{PlainPosition, at_key}
use Rattle.cudf_referee.specs.Promises.Walks.{Walking, left}
use Rattle.cudf_job.specs.declared.key.Key.{Key}
use Rattle.cudf_referee.specs.Instances.{PlainInstance}
use Rattle.cudf_job.specs.KeyViews.{key_view}
use Rattle.cudf_referee.specs.Proposals.{Proposal}
use Rattle.cudf_referee.specs.Violations.{listing, rest}
use Rattle.cudf_check.specs.Report.{line}

-- the violated instances whose keys come after this one; all of them where there is none
abbrev pub listed : Option PlainKey → Proposal → List PlainInstance
listed after s = option_map_or (λ key. rest key s) after (listing s)

-- the keys of the listing ascend
abbrev pub Ascends : Proposal → Type 0
Ascends s = IsTrue (ascend (map (λ i. i.key) (listing s)))

-- the key of the last one
abbrev pub end_key : List PlainInstance → Option PlainKey
end_key is = option_map (λ i. i.key) (last_or None is)

-- so many instances were taken, and this is the key of the last one; or there was none left to take
abbrev pub IsPageEnd : ℕ → List PlainInstance → List PlainInstance → Option Key → Type 0
IsPageEnd limit old new (Some key) = (end_key (take limit old) ≡ Some (key_view key)) × (new ≡ drop limit old)
IsPageEnd limit old new None = (end_key (take limit old) ≡ None) ⊎ (drop limit old ≡ [])

-- the same, unless a write failed before the page was whole
abbrev pub IsEnded : ℕ → List PlainInstance → List PlainInstance → Option Key → Bool → Type 0
IsEnded limit old new (Some key) has_failed = IsPageEnd limit old new (Some key)
IsEnded limit old new None true = Unit {0}
IsEnded limit old new None false = IsPageEnd limit old new None

-- where the next page begins, if an instance is left
abbrev pub more_behind : List PlainInstance → PlainKey → List ℕ
more_behind is key = if is_empty is then [] else line (codes "more after " ++ key_text key)

-- the same of the listing, after the key of the last one
abbrev pub more_after : Proposal → Option PlainKey → List ℕ
more_after s None = []
more_after s (Some key) = more_behind (rest key s) key

-- how many instances a page has at most: all that are left, where it has no limit
abbrev pub page_size : Option ℕ → List PlainInstance → ℕ
page_size None is = length is
page_size (Some limit) is = limit

-- ---- what was spent

-- the positions at instances
abbrev pub positions : List PlainInstance → List PlainPosition
positions is = map (λ i. at_key i.key) is

-- where calls that went to these positions end
abbrev pub last_position : PlainPosition → List PlainPosition → PlainPosition
last_position old [] = old
last_position old (new ∷ more) = last_position new more

-- after calls that gave so many instances
pub record HasSpent (taken : List PlainInstance) (old new : Walking) : Type 0 where
  pub judged : new.judged ≡ old.judged
  pub position : new.position ≡ last_position old.position (positions taken)
  pub steps : new.steps ≤ old.steps + cost_along old.judged old.position (positions taken)

-- after a whole page, where there is one
abbrev pub IsSpent : ℕ → Walking → Walking → Option Key → Type 0
IsSpent limit old new (Some key) = HasSpent (take limit (left old)) old new × (limit ≤ length (left old))
IsSpent limit old new None = Unit {0}
