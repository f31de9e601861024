use Rattle.std.proofs.Common.{◌≡◌, ap, drop, length, min, [], ◌∷◌, ◌++◌, ◌∙◌, ℕ, arith}
use Rattle.cudf_lrat.specs.declared.cnf.Literal.{Literal}
use Rattle.cudf_better.specs.Cardinality.{compared}
use Rattle.cudf_better.specs.Working.Definitions.{with_terms}
use Rattle.cudf_better.proofs.PutLemmas.{compared_end, compared_puts, rest_of}
use Rattle.cudf_better.proofs.network.put_compared.Goals as goal

pub loop-i-preserved : goal.loop-i-preserved
loop-i-preserved c =
    let g = c.loop-i.definitions in
    let one = c.in_ok-put.ensures ∙ ap (λ (l : Literal). with_terms g ((l ∷ []) ∷ [])) c.positive_literal-x.ensures in
    let two = c.in_ok-put-2.ensures ∙ (λ i. with_terms (one i) ((c.positive_literal-y.ensures i ∷ []) ∷ [])) in
    let three = c.in_ok-put-3.ensures ∙ (λ i. with_terms c.finish_variable-one.new.self ((c.positive_literal-x.ensures i ∷ c.positive_literal-y.ensures i ∷ []) ∷ [])) in
    compared_puts c.args.definitions.now c.args.outputs.now.items (compared c.args.definitions.now.next c.args.xs.now c.args.ys.now) g c.loop-i.outputs.items c.args.xs.now c.args.ys.now c.loop-i.i (omega arith) (omega arith) c.loop-i.invariant
    c.put-in-loop-i.new.self c.finish_variable-one.new.self c.put-in-loop-i-2.new.self c.finish_variable-both.new.self two c.finish_variable-one.ensures.next three c.finish_variable-both.ensures.next c.push-in-loop-i.new.self.items
    (c.in_ok-push-2.ensures.items ∙ (λ i. (c.in_ok-push.ensures.items ∙ ap (λ (p : ℕ). c.loop-i.outputs.items ++ p ∷ []) c.finish_variable-one.ensures.variable) i ++ c.finish_variable-both.ensures.variable i ∷ []))

pub returns : goal.returns
returns c =
    let n : c.loop-i.i ≡ min (length c.args.xs.now) (length c.args.ys.now) = omega arith in
    let same : c.min-n.result ≡ c.loop-i.i = omega arith in
    compared_end c.args.definitions.now c.args.outputs.now.items (compared c.args.definitions.now.next c.args.xs.now c.args.ys.now) c.loop-i.definitions c.loop-i.outputs.items c.extend_from_slice-2.new.self.items c.args.xs.now c.args.ys.now c.loop-i.i n c.loop-i.invariant
    (c.in_ok-extend_from_slice-2.ensures.items
    ∙ (λ i. (c.in_ok-extend_from_slice.ensures.items ∙ ap (λ ps. c.loop-i.outputs.items ++ ps) (rest_of c.args.xs.now c.min-n.result) ∙ ap (λ (k : ℕ). c.loop-i.outputs.items ++ drop k c.args.xs.now) same) i ++ (rest_of c.args.ys.now c.min-n.result ∙ ap (λ (k : ℕ). drop k c.args.ys.now) same) i))
