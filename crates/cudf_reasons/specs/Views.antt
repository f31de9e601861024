-- What contracts see of a needed CNF clause and of what is reported.
use Rattle.std.specs.Prelude.{ℕ, List}
use Rattle.cudf_job.specs.Keys.{PlainKey}
use Rattle.cudf_job.specs.KeyViews.{key_view}
use Rattle.cudf_reasons.specs.Reasons.{Keyed, PlainReason}
use Rattle.cudf_reasons.specs.declared.gathering.NeededClause.{NeededClause}

abbrev pub needed_view : NeededClause → Keyed
needed_view needed = (key_view needed.key, needed.literals.now)

-- a key, and the packages that its instance is met by
abbrev pub Told : Type 0
Told = PlainKey × List ℕ

abbrev pub told_as : PlainReason → Told
told_as reason = (reason.key, reason.met)
