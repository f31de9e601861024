-- The names so far are in the line, and are UTF-8.
use Rattle.std.proofs.Common.{◌≡◌, ◌++◌, map, string_bytes, take}
use Rattle.std.specs.List.{All}
use Rattle.std.specs.Str.{IsUtf8}
use Rattle.cudf_calls.specs.Calls.{names_of}
use Rattle.cudf_calls.proofs.document.add_names.Given as goal

abbrev pub invariant-loop-document : goal.invariant-loop-document
invariant-loop-document l = record {
  line : map (λ word. string_bytes word) l.line.items ≡ map (λ word. string_bytes word) l.fn.line.items ++ names_of (take l.document-index l.documents);
  read : All IsUtf8 (names_of (take l.document-index l.documents));
}
