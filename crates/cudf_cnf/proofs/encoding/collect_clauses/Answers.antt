use Rattle.std.proofs.Common.{◌≡◌, List, length, ap, ◌∙◌, arith}
use Rattle.std.proofs.lemmas.List.{length-map}
use Rattle.cudf_problem.specs.Promises.Views.{package_view}
use Rattle.cudf_problem.specs.Universe.{PlainPackage}
use Rattle.cudf_cnf.specs.Cnf.{cnf}
use Rattle.cudf_cnf.proofs.CollectorLemmas.{had_none, had_room}
use Rattle.cudf_cnf.proofs.EncodingLemmas.{all_held, none_held}
use Rattle.cudf_cnf.proofs.encoding.collect_clauses.Goals as goal

pub fill-requires-clause-places : goal.fill-requires-clause-places
fill-requires-clause-places c = omega (arith, c.new-to.ensures.places, ap (λ (ps : List PlainPackage). length ps) c.packages.ensures.packages, length-map c.packages.result.now package_view)

pub returns-then-branch : goal.returns-then-branch
returns-then-branch c =
    let places : c.new-to.result.clauses.places ≡ length c.args.encoder.now.problem.now.packages = omega (arith, c.new-to.ensures.places, ap (λ (ps : List PlainPackage). length ps) c.packages.ensures.packages, length-map c.packages.result.now package_view) in
    all_held c.args.encoder.now.problem.now c.args.room c.fill.new.to (had_room c.in_ok-fill.field-0 (cnf c.args.encoder.now.problem.now) c.fill.new.to c.if-branch.true c.in_ok-fill.ensures.outcome)
    (c.fill.ensures.same.room ∙ c.new-to.ensures.room) (c.fill.ensures.same.places ∙ places)

pub returns : goal.returns
returns c =
    none_held c.args.encoder.now.problem.now c.args.room c.fill.new.to (had_none c.in_ok-fill.field-0 (cnf c.args.encoder.now.problem.now) c.fill.new.to c.if-branch.false c.in_ok-fill.ensures.outcome) (c.fill.ensures.same.room ∙ c.new-to.ensures.room)
