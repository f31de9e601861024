use Rattle.std.proofs.Common.{◌≡◌, map, take}
use Rattle.cudf_text.specs.Working.Tracked.{tracked_part, tracked_property}
use Rattle.cudf_text.proofs.text.take_all.Given as goal

abbrev pub invariant-loop-part : goal.invariant-loop-part
invariant-loop-part l = map tracked_property l.taken.items ≡ map tracked_part (take l.part-index l.parts)
