use Rattle.std.proofs.Common.{◌+◌, ◌^◌, ◌<◌, length, arith}
use Rattle.cudf_lrat.proofs.StepsLemmas.{derivation-push, steps-push}
use Rattle.cudf_lrat.specs.Lists.{lists_in}
use Rattle.cudf_lrat.proofs.steps.ProofSteps.push.Goals as goal

pub returns-clause-after : goal.returns-clause-after
returns-clause-after c =
    let cnf = c.args.cnf.now in
    let self = c.args.self.now in
    let few : length cnf.clauses + length self.numbers.items + 1 < 2 ^ 32 = omega (arith, c.len.ensures, c.len-2.ensures, self.numbers.ok.0) in
    derivation-push cnf self.numbers.items c.push.new.self.items (lists_in self.clauses) (lists_in c.push-2.new.self) (lists_in self.used) (lists_in c.push-3.new.self) c.args.number c.args.clause.now c.args.used.now
    c.in_ok-push.ensures.items c.in_ok-push-2.ensures.ok c.in_ok-push-3.ensures.ok c.requires.after c.requires.known c.requires.new few c.requires.variables

pub returns-clause-steps : goal.returns-clause-steps
returns-clause-steps c =
    let self = c.args.self.now in
    steps-push c.args.cnf.now self.numbers.items c.push.new.self.items (lists_in self.clauses) (lists_in c.push-2.new.self) (lists_in self.used) (lists_in c.push-3.new.self) c.args.number c.args.clause.now c.args.used.now
    c.in_ok-push.ensures.items c.in_ok-push-2.ensures.ok c.in_ok-push-3.ensures.ok c.requires.after c.requires.known
