use Rattle.std.proofs.Common.{◌≡◌, ◌+◌, ◌++◌, [], List, length, sym, ap, ◌∙◌, arith}
use Rattle.std.specs.Prelude.{option_map, unwrap_or}
use Rattle.std.specs.List.{flat_map}
use Rattle.std.proofs.lemmas.List.{append-nil, length-map}
use Rattle.cudf_value.specs.Formulas.{PlainAtom}
use Rattle.cudf_value.specs.Promises.Views.{formula_view}
use Rattle.cudf_problem.specs.Promises.Views.{package_view}
use Rattle.cudf_better.specs.Working.Sources.{missed_by}
use Rattle.cudf_better.proofs.PackageLemmas.{recommended_more}
use Rattle.cudf_better.proofs.items.add_recommended.Goals as goal
use Rattle.cudf_better.proofs.items.add_recommended.Goals.{in-Some+in_ok-add_missed_of, in_default}

pub loop-index-preserved : goal.loop-index-preserved
loop-index-preserved c =
    let problem = c.args.source.now.problem.now in
    let i = c.loop-index.index in
    let cur = c.loop-index.items in
    let long : length problem.packages ≡ length c.packages-index-end.result.now = sym (ap length c.packages-index-end.ensures.packages) ∙ length-map c.packages-index-end.result.now package_view in
    recommended_more problem i (option_map formula_view c.recommends.result) c.args.items.now cur c.match-recommends.items (omega (arith, long, c.loop-index-test.true)) c.loop-index.invariant c.recommends.ensures
    (elim c.match-recommends.branch [
      | in-Some+in_ok-add_missed_of w ↦ w.items-is ∙ w.in_ok-add_missed_of.ensures
          ∙ ap (λ (cs : List (List PlainAtom)). cur ++ flat_map (missed_by problem (i + 1)) cs) (ap (λ r. unwrap_or (option_map formula_view r) []) (sym w.in-Some.is))
      | in_default w ↦ w.items-is ∙ sym (append-nil cur)
          ∙ ap (λ (cs : List (List PlainAtom)). cur ++ flat_map (missed_by problem (i + 1)) cs) (ap (λ r. unwrap_or (option_map formula_view r) []) (sym w.in_default.is))
    ])
