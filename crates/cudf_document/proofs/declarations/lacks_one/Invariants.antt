use Rattle.std.proofs.Common.{◌≡◌, false, not, bytes_eq, take}
use Rattle.std.specs.List.{list_any}
use Rattle.cudf_document.proofs.declarations.lacks_one.Given as goal

-- none of those so far is missing
abbrev pub invariant-loop-name : goal.invariant-loop-name
invariant-loop-name l = false ≡ list_any (λ name. not (list_any (bytes_eq name.now) l.seen)) (take l.name-index l.required)
