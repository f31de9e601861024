use Rattle.std.proofs.Common.{ap, sym, drop, get_or, [], ◌∷◌, ◌++◌, ◌+◌, ◌∙◌, arith}
use Rattle.std.proofs.lemmas.List.{append_assoc, append-nil}
use Rattle.cudf_better.specs.Cardinality.{evens}
use Rattle.cudf_better.proofs.PutLemmas.{evens_last, evens_none, evens_step}
use Rattle.cudf_better.proofs.network.every_second.Goals as goal

pub loop-i-preserved-then-i-variables : goal.loop-i-preserved-then-i-variables
loop-i-preserved-then-i-variables c = record {
  found = ap (λ found. found ++ evens (drop (c.loop-i.i + 1 + 1) c.args.variables.now)) c.in_ok-push.ensures.items
      ∙ append_assoc c.loop-i.found.items (get_or c.args.variables.now c.loop-i.i 0 ∷ []) (evens (drop (c.loop-i.i + 1 + 1) c.args.variables.now))
      ∙ ap (λ rest. c.loop-i.found.items ++ rest) (sym (evens_step c.args.variables.now c.loop-i.i (omega arith)))
      ∙ c.loop-i.invariant.found;
  within = omega arith;
}

pub loop-i-preserved : goal.loop-i-preserved
loop-i-preserved c = record {
  found = ap (λ found. found ++ evens (drop (c.loop-i.i + 1) c.args.variables.now)) c.in_ok-push.ensures.items
      ∙ append_assoc c.loop-i.found.items (get_or c.args.variables.now c.loop-i.i 0 ∷ []) (evens (drop (c.loop-i.i + 1) c.args.variables.now))
      ∙ ap (λ rest. c.loop-i.found.items ++ rest) (sym (evens_last c.args.variables.now c.loop-i.i (omega arith)))
      ∙ c.loop-i.invariant.found;
  within = omega arith;
}

pub returns : goal.returns
returns c =
    sym (append-nil c.loop-i.found.items)
    ∙ ap (λ rest. c.loop-i.found.items ++ rest) (sym (evens_none c.args.variables.now c.loop-i.i (omega arith)))
    ∙ c.loop-i.invariant.found
