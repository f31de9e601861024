use Rattle.std.proofs.Common.{◌≡◌, false, bytes_eq, take}
use Rattle.std.specs.List.{list_any}
use Rattle.cudf_document.proofs.names.is_among.Given as goal

-- none of those so far
abbrev pub invariant-loop-seen : goal.invariant-loop-seen
invariant-loop-seen l = false ≡ list_any (λ seen. bytes_eq l.name seen.now) (take l.seen-index l.names)
