use Rattle.std.proofs.Common.{◌≡◌, length, map}
use Rattle.std.specs.Str.{byte}
use denote.Text.{Utf8}
use denote.Shadow.{shadow}
use Rattle.cudf_value.specs.Parts.{read_parts}
use Rattle.cudf_value.specs.Declarations.{ident_part}
use Rattle.cudf_value.proofs.PartsLemmas.{onto}
use Rattle.cudf_value.proofs.declaration.parse_idents.Given as goal

abbrev pub invariant-loop-ident : goal.invariant-loop-ident
invariant-loop-ident l = shadow (Utf8 l.rest)
    × (onto (map (λ ident. ident.now) l.idents.items) (read_parts (byte ",") ident_part l.rest) ≡ read_parts (byte ",") ident_part l.text)

abbrev pub decreases-loop-ident : goal.decreases-loop-ident
decreases-loop-ident l = length l.rest
