use Rattle.std.proofs.Common.{sym}
use Rattle.cudf_cnf.proofs.HeldLemmas.{held_push, when_ok}
use Rattle.cudf_cnf.proofs.clauses.KeyedClauses.push.Goals as goal

pub returns-clause-ok : goal.returns-clause-ok
returns-clause-ok c =
    held_push c.self.inside.cnf.variables c.push-2.new.self.variables c.self.inside.keys.items c.push.new.self.items c.self.inside.cnf.clauses c.push-2.new.self.clauses c.args.self.now c.args.key c.args.clause.now
    c.self.view_is c.self.invariant c.push-2.ensures.variables c.in_ok-push.ensures.items (when_ok c.push-2.result (sym c.if-is_err.ensures.value) c.push-2.ensures.ok)
