use Rattle.std.proofs.Common.{◌≡◌, List, arith, length, ap, subst}
use Rattle.std.specs.FinSet as set
use Rattle.std.specs.Prelude.{IfOk}
use Rattle.std.proofs.lemmas.List.{length-map}
use Rattle.cudf_problem.specs.Promises.Views.{package_view}
use Rattle.cudf_problem.specs.Universe.{PlainPackage}
use Rattle.cudf_index.specs.Satisfaction.{Placed}
use Rattle.cudf_cnf.proofs.ProblemLemmas.{every_member}
use Rattle.cudf_cnf.proofs.encoder.all_of.Goals as goal

pub returns : goal.returns
returns c =
    let ps = c.packages-member-items.result.now in
    subst (λ (every : List Placed). IfOk c.build.result (λ (all : List Placed). all ≡ every))
    (every_member (set.contains c.from_flags-everything.result) c.loop-member.flags.items c.args.problem.now.packages c.from_flags-everything.ensures
    (λ k inside. c.loop-member.invariant.set k (omega (arith, inside, ap (λ (xs : List PlainPackage). length xs) c.packages-member-items.ensures.packages, length-map ps package_view, c.loop-member-test.false))))
    c.build.ensures
