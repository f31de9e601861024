use Rattle.std.proofs.Common.{◌≡◌, take}
use Rattle.std.specs.List.{flat_map}
use Rattle.cudf_reasons.specs.Reasons.{positive_places}
use Rattle.cudf_reasons.specs.Working.Gathered.{literals_in, other_places}
use Rattle.cudf_reasons.proofs.gathering.Places.gather.Given as goal

abbrev pub invariant-loop-clause : goal.invariant-loop-clause
invariant-loop-clause l = record {
  named : l.self.named.items ≡ flat_map positive_places (literals_in (take l.clause-index l.clauses));
  met : l.self.met.items ≡ flat_map (other_places l.part) (literals_in (take l.clause-index l.clauses));
}
