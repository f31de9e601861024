use Rattle.std.proofs.Common.{ap, sym, ◌∙◌, rules, tests}
use Rattle.std.specs.Prelude.{option_map}
use Rattle.std.specs.Option.{option_map_or}
use Rattle.std.specs.declared.cmp.Ordering.TheVariants.{Equal}
use Rattle.std.proofs.lemmas.Iterator.{YieldsList-from_slice}
use Rattle.std.proofs.lemmas.Iterator.Search.{find_from_yields_List}
use Rattle.cudf_job.specs.Comparing.{aim_cmp, differ_in}
use Rattle.cudf_job.proofs.criteria.compare.Goals as goal

pub returns-in-Some : goal.returns-in-Some
returns-in-Some c =
    let left = c.args.left.now in
    let right = c.args.right.now in
    let found = find_from_yields_List (differ_in left right) _ _ c.find.result c.find.ensures.ran (YieldsList-from_slice c.args.aims.now cc) (λ x b q k. search (rules, tests)) in
    c.compare.ensures ∙ ap (λ o. option_map_or (aim_cmp left right) o Equal) (sym (ap (option_map (λ a. a.now)) c.in-Some.is) ∙ found)

pub returns-in-None : goal.returns-in-None
returns-in-None c =
    let left = c.args.left.now in
    let right = c.args.right.now in
    let found = find_from_yields_List (differ_in left right) _ _ c.find.result c.find.ensures.ran (YieldsList-from_slice c.args.aims.now cc) (λ x b q k. search (rules, tests)) in
    ap (λ o. option_map_or (aim_cmp left right) o Equal) (sym (ap (option_map (λ a. a.now)) c.in-None.is) ∙ found)
