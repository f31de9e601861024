use Rattle.cudf_cnf.proofs.HeldLemmas.{held_clauses}
use Rattle.cudf_cnf.proofs.clauses.KeyedClauses.cnf.Goals as goal

pub returns-clause-clauses : goal.returns-clause-clauses
returns-clause-clauses c = held_clauses c.self.inside.cnf.variables c.self.inside.keys.items c.self.inside.cnf.clauses c.args.self.now c.self.view_is c.self.invariant
