-- Instances that are sought by their keys, among those whose keys ascend.
use Rattle.std.specs.Prelude.{◌≡◌, Bool, List, map, filter, find, Option, IsTrue}
use Rattle.std.specs.Ordering.{is_eq}
use Rattle.cudf_job.specs.Keys.{PlainKey, key_cmp, ascend}
use Rattle.cudf_referee.specs.Instances.{PlainInstance}
use Rattle.cudf_referee.specs.Promises.Stops.{precedes}

abbrev pub has_key : PlainKey → PlainInstance → Bool
has_key key i = is_eq (key_cmp i.key key)

-- those of all that come after a key
abbrev pub after_key : PlainKey → List PlainInstance → List PlainInstance
after_key key is = filter (λ i. precedes key i.key) is

-- of all, the rest has those that come after the key, and the one that has it
pub record IsRest (key : PlainKey) (all rest : List PlainInstance) : Type 0 where
  pub ascends : IsTrue (ascend (map (λ i. i.key) rest))
  pub after : after_key key all ≡ after_key key rest
  pub found : find (has_key key) all ≡ find (has_key key) rest

-- of all, this one has the key, and those come after it
pub record Seeks (key : PlainKey) (all : List PlainInstance) (found : Option PlainInstance) (left : List PlainInstance) : Type 0 where
  pub one : found ≡ find (has_key key) all
  pub after : after_key key all ≡ left
