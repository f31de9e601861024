use Rattle.std.proofs.Common.{◌≡◌, ◌++◌, map, take}
use Rattle.cudf_cnf.specs.Cnf.{is_in}
use Rattle.cudf_cnf.proofs.rules.add_places.Given as goal

abbrev pub invariant-loop-place : goal.invariant-loop-place
invariant-loop-place l = l.literals.items ≡ l.initial.literals.items ++ map is_in (take l.place-index l.places)
