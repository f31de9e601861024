-- What is left is what follows the characters so far.
use Rattle.std.proofs.Common.{◌≡◌, drop}
use Rattle.std.specs.Str.{IsUtf8, chars}
use Rattle.cudf_check.proofs.lines.naming.clip.Given as goal

abbrev pub invariant-loop : goal.invariant-loop
invariant-loop l = IsUtf8 l.chars.rest.now × (chars l.chars.rest.now ≡ drop l.counter (chars l.text))
