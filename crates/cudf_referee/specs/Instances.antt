-- The instances of CUDF's rules: own in their keys; what they say is that of the rules.
use Rattle.std.specs.Prelude.{ℕ, List, Option}
use Rattle.cudf_value.specs.Vpkgs.{PlainVpkg}
use Rattle.cudf_value.specs.Formulas.{PlainAtom}
use Rattle.cudf_problem.specs.Ids.{Id}
use Rattle.cudf_job.specs.Keys.{PlainKey}

-- what is wrong, with the document's own conjunct or entry
pub data PlainWhat : Type 0 where
  needs : List PlainAtom → PlainWhat
  conflicts_with : PlainVpkg → PlainWhat
  keep_version : PlainWhat
  keep_package : PlainWhat
  keep_feature : PlainVpkg → PlainWhat
  install : PlainVpkg → PlainWhat
  remove : PlainVpkg → PlainWhat
  upgrade : PlainVpkg → PlainWhat
  unknown : PlainWhat

-- an instance: its key, the line of its stanza, the package or pair that it is about, and what is wrong
pub record PlainInstance : Type 0 where
  pub key : PlainKey
  pub line : ℕ
  pub subject : Option Id
  pub what : PlainWhat
