-- The words so far are in the line, and are UTF-8.
use Rattle.std.proofs.Common.{◌≡◌, ◌++◌, map, string_bytes, take}
use Rattle.std.specs.List.{All}
use Rattle.std.specs.Str.{IsUtf8}
use Rattle.cudf_calls.proofs.document.add_words.Given as goal

abbrev pub invariant-loop-word : goal.invariant-loop-word
invariant-loop-word l = record {
  line : map (λ word. string_bytes word) l.line.items ≡ map (λ word. string_bytes word) l.fn.line.items ++ map (λ word. word.bytes.now) (take l.word-index l.words);
  read : All IsUtf8 (map (λ word. word.bytes.now) (take l.word-index l.words));
}
