use Rattle.std.proofs.Common.{List, [], refl, subst, arith}
use Rattle.std.specs.Prelude.{All}
use Rattle.std.proofs.lemmas.List.{take_all}
use Rattle.std.proofs.lemmas.List.Elements.{All-more}
use Rattle.cudf_lrat.specs.declared.cnf.Literal.{Literal}
use Rattle.cudf_lrat.specs.Lists.{lists_in}
use Rattle.cudf_lrat.specs.Literals.{IsWithin}
use Rattle.cudf_lrat.proofs.cnf.Cnf.are_within.Goals as goal

pub loop-index-preserved : goal.loop-index-preserved
loop-index-preserved c =
    let P : List Literal → Type 0 = All (IsWithin c.args.variables) in
    All-more P (lists_in c.args.clauses.now) c.loop-index.index [] (omega arith) c.loop-index.invariant (subst P c.get.ensures (c.if-not-is_within.ensures.0 refl))

pub returns : goal.returns
returns c = λ is.
    let P : List Literal → Type 0 = All (IsWithin c.args.variables) in
    subst (λ (clauses : List (List Literal)). All P clauses) (take_all c.loop-index.index (lists_in c.args.clauses.now) (omega arith)) c.loop-index.invariant
