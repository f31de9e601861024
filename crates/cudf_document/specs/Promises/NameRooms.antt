-- What room for copies of names holds: own.
use Rattle.std.specs.Prelude.{ℕ, List}
use Rattle.cudf_document.specs.declared.problem.keeping.NameRoom.{NameRoom, NameRoom'}

-- the bytes of its first block
abbrev pub first_block : NameRoom → List ℕ
first_block (NameRoom' bytes more) = bytes.items
