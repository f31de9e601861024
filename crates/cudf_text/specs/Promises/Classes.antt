-- The classes of characters.
use Rattle.std.specs.Prelude.{ℕ, Bool}
use Rattle.std.specs.Char.{is_ascii_alphabetic}
use Rattle.cudf_text.specs.declared.scan.Class.{Class}
use Rattle.cudf_text.specs.declared.scan.Class.TheVariants.{Blank, Letter, Ident, Name, Operator}
use Rattle.cudf_text.specs.Chars.{is_blank, is_ident_char, is_pkgname_char, is_operator_char}

-- the class's own test
abbrev pub is_in_class : Class → ℕ → Bool
is_in_class Blank = is_blank
is_in_class Letter = is_ascii_alphabetic
is_in_class Ident = is_ident_char
is_in_class Name = is_pkgname_char
is_in_class Operator = is_operator_char
