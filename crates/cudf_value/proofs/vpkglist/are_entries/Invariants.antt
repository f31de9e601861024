use Rattle.std.proofs.Common.{◌≡◌, length, is_some}
use Rattle.std.specs.Str.{byte}
use denote.Text.{Utf8}
use denote.Shadow.{shadow}
use Rattle.cudf_value.specs.Parts.{read_parts}
use Rattle.cudf_value.specs.Working.Entries.{vpkg_part}
use Rattle.cudf_value.proofs.vpkglist.are_entries.Given as goal

abbrev pub invariant-parts : goal.invariant-parts
invariant-parts l = shadow (Utf8 l.rest) × (is_some (read_parts (byte ",") (vpkg_part l.exact) l.rest) ≡ is_some (read_parts (byte ",") (vpkg_part l.exact) l.text))

abbrev pub decreases-parts : goal.decreases-parts
decreases-parts l = length l.rest
