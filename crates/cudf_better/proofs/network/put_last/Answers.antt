use Rattle.std.proofs.Common.{◌≡◌, ◌-◌, arith, drop, length, min, refl, take, ◌∙◌}
use Rattle.cudf_better.proofs.PutLemmas.{compared_same, drop_first, rest_of, take_first}
use Rattle.cudf_better.proofs.network.put_last.Goals as goal

pub returns : goal.returns
returns c =
    let even = c.args.even.now in
    let odd = c.args.odd.now in
    let n = c.min-first.result in
    let first : n ≡ min (length even) 1 = omega (arith, c.min-first.ensures) in
    compared_same c.args.definitions.now c.put_compared.new.definitions odd odd (take (length even - n) (drop n even)) (drop 1 even) c.in_ok-outputs.outputs.items (take 1 even) c.put_compared.new.outputs.items
    refl (rest_of even n ∙ drop_first even n first) (c.in_ok-outputs.ensures ∙ take_first even n first) c.in_ok-put_compared.ensures
