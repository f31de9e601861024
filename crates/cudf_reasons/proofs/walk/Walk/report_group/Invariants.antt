use Rattle.std.proofs.Common.{◌≡◌, filter, take}
use Rattle.cudf_reasons.specs.Reasons.{with_reasons}
use Rattle.cudf_reasons.specs.Working.Walks.{is_root, Progress}
use Rattle.cudf_reasons.proofs.walk.Walk.report_group.Given as goal

abbrev pub invariant-loop-index : goal.invariant-loop-index
invariant-loop-index l =
    let p : Progress = l.initial.self in
    l.self ≡ record p { told = with_reasons p.told (filter (is_root l.root) (take l.index p.core)) }
