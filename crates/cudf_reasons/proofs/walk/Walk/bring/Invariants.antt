use Rattle.std.proofs.Common.{◌≡◌, take}
use Rattle.std.specs.List.{flat_map}
use Rattle.cudf_reasons.specs.Reasons.{brought, with_reasons}
use Rattle.cudf_reasons.specs.Working.Walks.{Progress}
use Rattle.cudf_reasons.proofs.walk.Walk.bring.Given as goal

abbrev pub invariant-loop-place : goal.invariant-loop-place
invariant-loop-place l =
    let p : Progress = l.initial.self in
    l.self ≡ record p { told = with_reasons p.told (flat_map (brought p.core) (take l.place-index l.place-items)) }
