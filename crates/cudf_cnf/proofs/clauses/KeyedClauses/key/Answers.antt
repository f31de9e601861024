use Rattle.std.proofs.Common.{arith}
use Rattle.cudf_cnf.proofs.HeldLemmas.{held_key, held_length}
use Rattle.cudf_cnf.proofs.clauses.KeyedClauses.key.Goals as goal

pub index-requires : goal.index-requires
index-requires c =
    let long = held_length c.self.inside.cnf.variables c.self.inside.keys.items c.self.inside.cnf.clauses c.args.self.now c.self.view_is c.self.invariant in
    omega (arith, long, c.requires, c.self.invariant, c.self.inside.keys.ok.0)

pub returns : goal.returns
returns c =
    let long = held_length c.self.inside.cnf.variables c.self.inside.keys.items c.self.inside.cnf.clauses c.args.self.now c.self.view_is c.self.invariant in
    held_key c.self.inside.cnf.variables c.self.inside.keys.items c.self.inside.cnf.clauses c.args.self.now c.args.index c.index.result.now c.self.view_is c.self.invariant (omega (arith, long, c.requires)) c.index.ensures
