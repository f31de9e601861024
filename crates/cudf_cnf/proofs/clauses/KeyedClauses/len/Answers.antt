use Rattle.std.proofs.Common.{sym, ◌∙◌}
use Rattle.cudf_cnf.proofs.HeldLemmas.{held_length}
use Rattle.cudf_cnf.proofs.clauses.KeyedClauses.len.Goals as goal

pub returns : goal.returns
returns c = c.len.ensures ∙ c.self.inside.keys.ok.0 ∙ c.self.invariant ∙ sym (held_length c.self.inside.cnf.variables c.self.inside.keys.items c.self.inside.cnf.clauses c.args.self.now c.self.view_is c.self.invariant)
