use Rattle.std.proofs.Common.{◌≡◌, [], arith, subst, ◌∙◌}
use Rattle.std.specs.Prelude.{IfOk}
use Rattle.cudf_better.specs.Cardinality.{Network, output_count, sorted}
use Rattle.cudf_better.specs.Working.Definitions.{Puts, at_most}
use Rattle.cudf_better.proofs.PutLemmas.{sorted_whole}
use Rattle.cudf_better.proofs.network.put_counter.Goals as goal

pub returns : goal.returns
returns c =
    let g = c.args.definitions.now in
    let fs = c.args.formulas.now in
    let wanted : c.min-wanted.result ≡ output_count (at_most c.args.most fs) = omega (arith, c.min-wanted.ensures, c.saturating_add.ensures, c.len.ensures) in
    subst (λ (s : Network). IfOk c.put_sorted.result (λ outputs. Puts s g [] c.put_sorted.new.definitions outputs.items)) (sorted_whole c.min-wanted.result 32 g.next fs ∙ (λ i. sorted (wanted i) 32 g.next fs)) c.put_sorted.ensures.sorted
