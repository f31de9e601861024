use Rattle.std.proofs.Common.{[], ◌∷◌, ◌++◌, get_or, ◌∙◌}
use Rattle.cudf_better.proofs.PutLemmas.{single_put}
use Rattle.cudf_better.proofs.network.put_one.Goals as goal

pub returns : goal.returns
returns c =
    single_put c.args.definitions.now c.put.new.definitions c.finish_variable-variable.new.self (get_or c.args.formulas.now c.args.index []) c.finish_variable-variable.result c.push.new.self.items c.in_ok-put.ensures c.finish_variable-variable.ensures.next c.finish_variable-variable.ensures.variable
    (c.in_ok-push.ensures.items ∙ (λ i. c.new-outputs.ensures.items i ++ c.finish_variable-variable.result ∷ []))
