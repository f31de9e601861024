use Rattle.std.proofs.Common.{◌≡◌, not, bytes_eq, drop, map, find}
use Rattle.std.specs.List.{list_any}
use Rattle.cudf_document.proofs.details.mistyped.first_unseen.Given as goal

-- the first is one of those that are left
abbrev pub invariant-loop-name : goal.invariant-loop-name
invariant-loop-name l = find (λ name. not (list_any (bytes_eq name) l.seen)) (map (λ name. name.now) (drop l.name-index l.names))
    ≡ find (λ name. not (list_any (bytes_eq name) l.seen)) (map (λ name. name.now) l.names)
