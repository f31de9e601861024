use Rattle.std.proofs.Common.{◌≡◌, take}
use Rattle.std.specs.Prelude.{filter_map}
use Rattle.cudf_index.proofs.index.gathered_names.put_numbers.Given as goal

abbrev pub invariant-loop-provision : goal.invariant-loop-provision
invariant-loop-provision l = l.numbers.items ≡ filter_map (λ g. g.number) (take l.provision-index l.row)
