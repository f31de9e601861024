-- Lists of aims, as they are written: own.
use Rattle.std.specs.Prelude.{ℕ, List, [], ◌∷◌, ◌++◌, map, find, Option, bytes_eq}
use Rattle.std.specs.Str.{byte}
use Rattle.cudf_value.specs.Parts.{read_parts}
use Rattle.cudf_job.specs.declared.criteria.Aim.{Aim}
use Rattle.cudf_job.specs.declared.criteria.Count.{Count}
use Rattle.cudf_job.specs.declared.criteria.Count.TheVariants.{Removed, New, Changed, NotUpToDate, UnsatRecommends, Touched}
use Rattle.cudf_job.specs.declared.criteria.Sign.{Sign}
use Rattle.cudf_job.specs.declared.criteria.Sign.TheVariants.{Least, Most}
use Rattle.cudf_job.specs.Aims.{aim_text}

abbrev pub all_counts : List Count
all_counts = Removed ∷ New ∷ Changed ∷ NotUpToDate ∷ UnsatRecommends ∷ Touched ∷ []

abbrev pub aim_with : Sign → Count → Aim
aim_with sign count = record { sign = sign; count = count }

-- each count under each sign
abbrev pub all_aims : List Aim
all_aims = map (aim_with Least) all_counts ++ map (aim_with Most) all_counts

-- the aim of this text, if there is one
abbrev pub aim_of : List ℕ → Option Aim
aim_of text = find (λ aim. bytes_eq text (aim_text aim)) all_aims

-- aims, one at least, with a comma between each two and nothing else, as `-removed,+new`
unfoldable pub criterion : List ℕ → Option (List Aim)
criterion text = read_parts (byte ",") aim_of text
