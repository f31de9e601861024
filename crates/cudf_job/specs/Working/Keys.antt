-- Keys of each part, and keys in order, as proofs name them.
use Rattle.std.specs.Prelude.{ℕ, Bool, List, Option, None}
use Rattle.std.specs.List.{list_all}
use Rattle.std.specs.Ordering.{is_lt}
use Rattle.cudf_job.specs.declared.key.Part.TheVariants.{Package, Request, Solution}
use Rattle.cudf_job.specs.declared.key.Rule.{Rule}
use Rattle.cudf_job.specs.declared.key.Rule.TheVariants.{Unknown}
use Rattle.cudf_job.specs.declared.key.Aspect.{Aspect}
use Rattle.cudf_job.specs.Keys.{PlainKey, key_of, key_cmp}

-- of a package's rule, of one of the request, and of an unknown stanza
abbrev pub package_key : ℕ → Rule → ℕ → PlainKey
package_key n rule place = key_of (Package n) rule place None

abbrev pub request_key : Rule → ℕ → Option Aspect → PlainKey
request_key rule place aspect = key_of Request rule place aspect

abbrev pub unknown_key : ℕ → PlainKey
unknown_key stanza = key_of Solution Unknown stanza None

-- the key comes before each of these
abbrev pub precedes_all : PlainKey → List PlainKey → Bool
precedes_all key keys = list_all (λ k. is_lt (key_cmp key k)) keys
