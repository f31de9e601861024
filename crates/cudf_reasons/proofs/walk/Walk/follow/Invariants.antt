use Rattle.std.proofs.Common.{◌≡◌, ◌-◌, length}
use Rattle.cudf_reasons.specs.Reasons.{walk}
use Rattle.cudf_reasons.specs.Working.Walks.{Progress}
use Rattle.cudf_reasons.proofs.walk.Walk.follow.Given as goal

abbrev pub invariant-loop-next : goal.invariant-loop-next
invariant-loop-next l =
    let p : Progress = l.initial.self in
    record {
      core : l.self.core ≡ p.core;
      rest : walk (length p.core - l.next) p.core l.next l.self.told ≡ walk (length p.core) p.core 0 p.told;
    }
