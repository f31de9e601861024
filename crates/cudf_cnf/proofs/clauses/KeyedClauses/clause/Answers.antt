use Rattle.std.proofs.Common.{arith, ap, ◌∙◌, get_or, ℕ, []}
use Rattle.cudf_cnf.proofs.HeldLemmas.{held_clause, held_length}
use Rattle.cudf_cnf.proofs.clauses.KeyedClauses.clause.Goals as goal

pub overflow_cast-index : goal.overflow_cast-index
overflow_cast-index c =
    let long = held_length c.self.inside.cnf.variables c.self.inside.keys.items c.self.inside.cnf.clauses c.args.self.now c.self.view_is c.self.invariant in
    omega (arith, long, c.requires, c.len.ensures)

pub overflow_add-index : goal.overflow_add-index
overflow_add-index c =
    let long = held_length c.self.inside.cnf.variables c.self.inside.keys.items c.self.inside.cnf.clauses c.args.self.now c.self.view_is c.self.invariant in
    omega (arith, long, c.requires, c.len.ensures)

pub clause-requires-clause-within : goal.clause-requires-clause-within
clause-requires-clause-within c =
    let long = held_length c.self.inside.cnf.variables c.self.inside.keys.items c.self.inside.cnf.clauses c.args.self.now c.self.view_is c.self.invariant in
    omega (arith, long, c.requires)

pub returns : goal.returns
returns c =
    let long = held_length c.self.inside.cnf.variables c.self.inside.keys.items c.self.inside.cnf.clauses c.args.self.now c.self.view_is c.self.invariant in
    held_clause c.self.inside.cnf.variables c.self.inside.keys.items c.self.inside.cnf.clauses c.args.self.now c.args.index c.clause.result.now c.self.view_is c.self.invariant (omega (arith, long, c.requires))
    (c.clause.ensures.clause ∙ ap (λ (n : ℕ). get_or c.self.inside.cnf.clauses n []) (omega arith))
