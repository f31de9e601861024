use Rattle.std.proofs.Common.{◌≡◌, filter, take}
use Rattle.cudf_reasons.specs.Reasons.{is_brought_by, with_reasons}
use Rattle.cudf_reasons.specs.Working.Walks.{Progress}
use Rattle.cudf_reasons.proofs.walk.Walk.follow_package.Given as goal

abbrev pub invariant-loop-index : goal.invariant-loop-index
invariant-loop-index l =
    let p : Progress = l.initial.self in
    l.self ≡ record p { told = with_reasons p.told (filter (is_brought_by l.place) (take l.index p.core)) }
