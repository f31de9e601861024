-- The bits of classes of characters in the table.
use Rattle.std.specs.Prelude.{ℕ}
use Rattle.cudf_text.specs.declared.scan.Class.{Class}
use Rattle.cudf_text.specs.declared.scan.Class.TheVariants.{Blank, Letter, Ident, Name, Operator}

-- the bit of a class in the table
abbrev pub class_bit : Class → ℕ
class_bit Blank = 1
class_bit Letter = 2
class_bit Ident = 4
class_bit Name = 8
class_bit Operator = 16
