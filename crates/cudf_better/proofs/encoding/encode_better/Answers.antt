use Rattle.std.proofs.Common.{◌≡◌, length, sym, ap, subst, ◌∙◌, arith}
use Rattle.std.proofs.lemmas.List.{length-map}
use Rattle.cudf_problem.specs.Promises.Views.{package_view}
use Rattle.cudf_cnf.specs.Encodings.{IsEncoded}
use Rattle.cudf_better.proofs.EncodingLemmas.{many_packages, many_rules, where_some}
use Rattle.cudf_better.proofs.encoding.encode_better.Goals as goal

pub returns-in_default-clause-encoded : goal.returns-in_default-clause-encoded
returns-in_default-clause-encoded c = many_rules c.args.problem.now c.args.counts.now c.args.aims.now (subst (IsEncoded c.args.problem.now) c.in_default.is c.in_ok-rules.ensures)

pub returns-then-packages-clause-encoded : goal.returns-then-packages-clause-encoded
returns-then-packages-clause-encoded c =
    let long : length c.args.problem.now.packages ≡ length c.packages.result.now = sym (ap length c.packages.ensures.packages) ∙ length-map c.packages.result.now package_view in
    many_packages c.args.problem.now c.args.counts.now c.args.aims.now (omega (arith, long, c.if-packages.true))

pub returns-clause-distinct : goal.returns-clause-distinct
returns-clause-distinct c = where_some c.build_cnf.result c.packages.ensures.distinct
