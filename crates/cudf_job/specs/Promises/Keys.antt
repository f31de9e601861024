-- Keys that can be written: own.
use Rattle.std.specs.Prelude.{ℕ, Bool, ◌<◌, ◌^◌, List, codes, IsTrue}
use Rattle.cudf_job.specs.declared.key.Aspect.{Aspect}
use Rattle.cudf_job.specs.declared.key.Aspect.TheVariants.{Unsatisfied, Many, Lower}
use Rattle.cudf_job.specs.Keys.{PlainKey, is_key, part_place}

-- the parts fit each other
abbrev pub is_fitting : PlainKey → Bool
is_fitting key = is_key key.part key.rule key.place key.aspect

-- the keys that can be written: their parts fit each other, and their numbers are those of a `u64`
pub record IsWritable (key : PlainKey) : Type 0 where
  pub fits : IsTrue (is_fitting key)
  pub number : part_place key.part < 2 ^ 64
  pub place : key.place < 2 ^ 64

-- an aspect's word, without the point
abbrev pub aspect_word : Aspect → List ℕ
aspect_word Unsatisfied = codes "unsatisfied"
aspect_word Many = codes "many"
aspect_word Lower = codes "lower"
