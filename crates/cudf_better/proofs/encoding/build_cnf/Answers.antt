use Rattle.std.proofs.Common.{◌≡◌, false, subst, ◌+◌, ◌++◌, [], List, length, sym, ap, ◌∙◌, arith}
use Rattle.std.proofs.lemmas.List.{length-map}
use Rattle.cudf_lrat.specs.declared.cnf.Literal.{Literal}
use Rattle.std.specs.List.{list_any}
use Rattle.cudf_problem.specs.Promises.Views.{package_view}
use Rattle.cudf_problem.specs.Universe.{PlainProblem}
use Rattle.cudf_cnf.specs.Cnf.{clauses_of, cnf}
use Rattle.cudf_better.specs.Better.{constraints}
use Rattle.cudf_better.specs.Encodings.{has_too_many}
use Rattle.cudf_better.specs.Working.Constraints.{constraints_of}
use Rattle.cudf_better.specs.Working.Definitions.{PlainDefinitions, with_constraints}
use Rattle.cudf_better.proofs.EncodingLemmas.{made_ok}
use Rattle.cudf_better.proofs.encoding.build_cnf.Goals as goal

pub returns : goal.returns
returns c =
    let problem = c.args.problem.now in
    let counts = c.args.counts.now in
    let aims = c.args.aims.now in
    let long : length problem.packages ≡ length c.packages.result.now = sym (ap length c.packages.ensures.packages) ∙ length-map c.packages.result.now package_view in
    let fresh = c.new-definitions.ensures in
    let start : c.new-definitions.result.next ≡ length problem.packages + 1 = omega (arith, long, ap (λ (d : PlainDefinitions). d.next) fresh) in
    let next : c.put_all.new.self.next ≡ length problem.packages + 1 = ap (λ (d : PlainDefinitions). d.next) c.in_ok-put_all.ensures ∙ start in
    let rules : c.put_all.new.self.clauses ≡ clauses_of (cnf problem) =
    ap (λ (d : PlainDefinitions). d.clauses) c.in_ok-put_all.ensures ∙ ap (λ (cs : List (List Literal)). cs ++ c.args.rules.now.clauses) (ap (λ (d : PlainDefinitions). d.clauses) fresh) ∙ c.requires.rules in
    let made : constraints_of c.deref.result.now ≡ constraints problem counts aims =
    ap constraints_of c.deref.ensures.value ∙ c.in_ok-constraints.ensures.are ∙ ap (λ (p : PlainProblem). constraints p counts aims) c.in_ok-source.ensures in
    made_ok problem counts aims (with_constraints c.put_all.new.self [] (constraints_of c.deref.result.now)) c.put_constraints.new.definitions c.into_cnf.result (subst (λ (p : PlainProblem). list_any (has_too_many p) aims ≡ false) c.in_ok-source.ensures c.in_ok-constraints.ensures.few) c.in_ok-put_constraints.ensures
    (λ i. with_constraints (record { next = next i; clauses = rules i }) [] (made i)) c.into_cnf.ensures
