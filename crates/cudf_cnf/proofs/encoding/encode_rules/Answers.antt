use Rattle.std.proofs.Common.{◌<◌, ◌^◌, List, length, sym, ap, subst, arith}
use Rattle.std.specs.Prelude.{IfOk}
use Rattle.std.proofs.lemmas.List.{length-map}
use Rattle.cudf_problem.specs.Promises.Views.{package_view}
use Rattle.cudf_problem.specs.Universe.{PlainPackage, PlainProblem}
use Rattle.cudf_cnf.specs.Encodings.{IsEncoded}
use Rattle.cudf_cnf.specs.Working.Parts.{AreBefore}
use Rattle.cudf_cnf.proofs.encoding.encode_rules.Goals as goal

pub new-requires : goal.new-requires
new-requires c = omega (arith, ap (λ (ps : List PlainPackage). length ps) c.packages.ensures.packages, length-map c.packages.result.now package_view)

pub encoded_by-requires-clause-small : goal.encoded_by-requires-clause-small
encoded_by-requires-clause-small c =
    let few : length c.args.problem.now.packages < 2 ^ 32 = omega (arith, ap (λ (ps : List PlainPackage). length ps) c.packages.ensures.packages, length-map c.packages.result.now package_view) in
    subst (λ (p : PlainProblem). length p.packages < 2 ^ 32) (sym c.in_ok-encoder.ensures.problem) few

pub encoded_by-requires-clause-before : goal.encoded_by-requires-clause-before
encoded_by-requires-clause-before c = subst (λ (p : PlainProblem). AreBefore p c.in_ok-encoder.encoder.before.items) (sym c.in_ok-encoder.ensures.problem) c.in_ok-encoder.ensures.before

pub returns : goal.returns
returns c = subst (λ (p : PlainProblem). IfOk c.encoded_by.result (IsEncoded p)) c.in_ok-encoder.ensures.problem c.encoded_by.ensures
