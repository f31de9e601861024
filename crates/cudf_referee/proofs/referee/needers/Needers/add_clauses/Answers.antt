use Rattle.std.proofs.Common.{ap, sym, ◌∙◌}
use Rattle.cudf_value.specs.Promises.Views.{clause_view, clauses_view}
use Rattle.cudf_referee.specs.Working.Needers.{kept_needer, with_clauses}
use Rattle.cudf_referee.proofs.NeederLemmas.{nothing_added}
use Rattle.cudf_referee.proofs.referee.needers.Needers.add_clauses.Goals as goal

pub loop-clause-preserved : goal.loop-clause-preserved
loop-clause-preserved c = λ place covered.
    let status = c.args.installed.now in
    let needer = c.args.needer in
    let rest = clauses_view c.next.new.self in
    let old = kept_needer place c.loop-clause.self in
    let clause = clause_view c.in-Some.clause in
    let out = sym c.satisfies_clause.ensures ∙ c.if-satisfies_clause.false in
    ap (with_clauses status needer place rest) (sym (nothing_added needer place status clause old (covered clause out)))
    ∙ ap (λ clauses. with_clauses status needer place clauses old) (sym c.in-Some.ensures.steps)
    ∙ c.loop-clause.invariant place covered
