use Rattle.std.proofs.Common.{◌≡◌, List, ◌∷◌, ◌++◌, [], All, ap, map, sym, subst, ◌∙◌}
use Rattle.cudf_value.specs.Promises.Views.{clause_view}
use Rattle.cudf_index.specs.Satisfaction.{meets_clause_alone}
use Rattle.cudf_job.specs.Keys.{part_place}
use Rattle.cudf_job.specs.KeyViews.{key_view}
use Rattle.cudf_lrat.specs.declared.cnf.Literal.{Literal}
use Rattle.cudf_lrat.specs.Literals.{IsWithin}
use Rattle.cudf_cnf.specs.Cnf.{Keyed, is_in, is_out, needs_clauses, one_of}
use Rattle.cudf_cnf.specs.Working.Parts.{keyed}
use Rattle.cudf_cnf.proofs.PlaceLemmas.{found_places, needs_met, needs_put, one_of-where, one_out, put_as}
use Rattle.cudf_cnf.proofs.rules.put_needs.Goals as goal

pub negative_literal-requires : goal.negative_literal-requires
negative_literal-requires c = rw c.place_of-place.ensures c.requires.place.small

pub put_one_of-requires-clause-places : goal.put_one_of-requires-clause-places
put_one_of-requires-clause-places c =
    found_places c.args.clauses.now.places (meets_clause_alone (clause_view c.args.clause.now)) c.args.all.now c.deref.result.now c.requires.fits (c.deref.ensures.value ∙ c.in_ok-all_satisfying_unless_at.ensures.all c.if-branch.false)

pub put_one_of-requires-clause-literals : goal.put_one_of-requires-clause-literals
put_one_of-requires-clause-literals c =
    let place = part_place (key_view c.args.key).part in
    let is : c.push.new.self.items ≡ is_out place ∷ [] = c.in_ok-push.ensures.items ∙ (λ j. c.clear.ensures.items j ++ (c.negative_literal.ensures ∙ ap is_out c.place_of-place.ensures) j ∷ []) in
    subst (λ (ls : List Literal). All (IsWithin c.args.clauses.now.places) ls) (sym is) (one_out c.args.clauses.now.places place c.requires.place)

pub returns-then-branch-clause-put : goal.returns-then-branch-clause-put
returns-then-branch-clause-put c =
    needs_met (key_view c.args.key) c.args.all.now c.place_of-place.result (part_place (key_view c.args.key).part) (clause_view c.args.clause.now) c.in_ok-all_satisfying_unless_at.field-0 c.args.clauses.now.clauses
    c.if-branch.true c.in_ok-all_satisfying_unless_at.ensures.own c.place_of-place.ensures

pub returns-clause-put : goal.returns-clause-put
returns-clause-put c =
    let place = part_place (key_view c.args.key).part in
    let clause = clause_view c.args.clause.now in
    let test = meets_clause_alone clause in
    let all = c.args.all.now in
    let key = key_view c.args.key in
    let literals : c.push.new.self.items ++ map is_in c.deref.result.now ≡ is_out place ∷ one_of test all =
    (λ i. (c.in_ok-push.ensures.items ∙ (λ j. c.clear.ensures.items j ++ (c.negative_literal.ensures ∙ ap is_out c.place_of-place.ensures) j ∷ [])) i ++ map is_in ((c.deref.ensures.value ∙ c.in_ok-all_satisfying_unless_at.ensures.all c.if-branch.false) i))
    ∙ ap (λ (ls : List Literal). is_out place ∷ ls) (one_of-where test all) in
    put_as c.put_one_of.result c.put_one_of.new.clauses.clauses c.args.clauses.now.clauses ((key, c.push.new.self.items ++ map is_in c.deref.result.now) ∷ []) (keyed key (needs_clauses all place clause))
    (ap (λ (ls : List Literal). let k : Keyed = (key, ls) in k ∷ []) literals
    ∙ needs_put key all c.place_of-place.result place clause c.in_ok-all_satisfying_unless_at.field-0 c.if-branch.false c.in_ok-all_satisfying_unless_at.ensures.own c.place_of-place.ensures)
    c.put_one_of.ensures.put
