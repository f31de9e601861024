use Rattle.std.proofs.Common.{◌≡◌, ◌++◌, refl, take, Some, None, option_map, ap, sym, ◌∙◌, subst, append-nil}
use Rattle.std.specs.List.{flat_map, last_or}
use Rattle.cudf_job.specs.KeyViews.{key_view}
use Rattle.cudf_referee.specs.Promises.Walks.{left}
use Rattle.cudf_check.specs.Working.Named.{instance_style}
use Rattle.cudf_check.specs.Report.{instance_line, more_text, check_text}
use Rattle.cudf_check.specs.Working.Pages.{IsPageEnd, IsEnded, listed, more_behind}
use Rattle.cudf_check.proofs.PageLemmas.{left_listed, more-none, more-line, more-key, more-no-key}
use Rattle.cudf_device.specs.Promises.PaperInside.{has_failed}
use Rattle.cudf_device.proofs.PaperLemmas.{Says-as, ◌▸◌, Says-end}
use Rattle.cudf_check.proofs.PagePriceLemmas.{price-page, price-whole}
use Rattle.cudf_check.proofs.lines.scribe.print_page.Goals as goal

pub returns-in_default-clause-printed : goal.returns-in_default-clause-printed
returns-in_default-clause-printed g c =
    let s = c.args.scribe.now.judged in
    let style = instance_style c.args.scribe.now.explain c.args.scribe.now.origins c.args.scribe.now.lines in
    let after = option_map key_view c.args.after in
    let walk = c.walk_after-instances in
    let is = left_listed s after walk.result walk.ensures.judged walk.ensures.position in
    let lines = flat_map (instance_line style s) in
    rw c.in_default.is (Says-as _ _ _ _ (check_text style after None s)
    (ap lines is ∙ sym (append-nil (lines (listed after s))) ∙ ap (λ text. lines (listed after s) ++ text) (sym (more-none s after c.requires.ascending)))
    c.print_rest.ensures.printed)

pub returns-in-Some-print_first-clause-printed : goal.returns-in-Some-print_first-clause-printed
returns-in-Some-print_first-clause-printed g c =
    let s = c.args.scribe.now.judged in
    let style = instance_style c.args.scribe.now.explain c.args.scribe.now.origins c.args.scribe.now.lines in
    let after = option_map key_view c.args.after in
    let walk = c.walk_after-instances in
    let is = left_listed s after walk.result walk.ensures.judged walk.ensures.position in
    let lines = flat_map (instance_line style s) in
    let limit = c.in-Some.limit in
    let new = left c.print_first.new.instances in
    let last = c.in-Some-print_first.last in
    let whole : IsPageEnd limit (listed after s) new (Some last) = subst (λ xs. IsPageEnd limit xs new (Some last)) is c.in-Some-print_first.ensures.end in
    let more : more_text s (last_or None (take limit (listed after s))) ≡ more_behind new (key_view last) = more-line s after limit new (Some last) c.requires.ascending whole ∙ more-key new last in
    rw c.in-Some.is (Says-as _ _ _ _ (check_text style after (Some limit) s)
    (ap (λ xs. lines (take limit xs) ++ more_behind new (key_view last)) is ∙ ap (λ text. lines (take limit (listed after s)) ++ text) (sym more))
    (c.print_first.ensures.printed ▸ c.print_next.ensures.printed))

pub returns-in-Some-print_first-clause-price : goal.returns-in-Some-print_first-clause-price
returns-in-Some-print_first-clause-price g c =
    let s = c.args.scribe.now.judged in
    let after = option_map key_view c.args.after in
    let walk = c.walk_after-instances in
    let end = c.in-Some-print_first.ensures in
    rw c.in-Some.is (price-page s after (Some c.in-Some.limit) walk.result _ (listed after s)
    (left_listed s after walk.result walk.ensures.judged walk.ensures.position) walk.ensures.judged walk.ensures.position walk.ensures.price
    (price-whole walk.result c.print_first.new.instances c.print_next.new.instances.steps c.in-Some.limit end.spent.1 end.spent.0 end.end.1 c.print_next.ensures.price))

pub returns-in-None-clause-printed : goal.returns-in-None-clause-printed
returns-in-None-clause-printed g c =
    let s = c.args.scribe.now.judged in
    let style = instance_style c.args.scribe.now.explain c.args.scribe.now.origins c.args.scribe.now.lines in
    let after = option_map key_view c.args.after in
    let walk = c.walk_after-instances in
    let is = left_listed s after walk.result walk.ensures.judged walk.ensures.position in
    let limit = c.in-Some.limit in
    let new = left c.print_first.new.instances in
    let page = take limit (listed after s) in
    rw c.in-Some.is (Says-end _ _ _ (flat_map (instance_line style s) page) (more_text s (last_or None page)) (has_failed c.print_first.new.paper) refl
    (λ calm. more-line s after limit new None c.requires.ascending
    (subst (λ xs. IsPageEnd limit xs new None) is (subst (IsEnded limit (left walk.result) new None) calm c.in-None.ensures.end)) ∙ more-no-key new)
    (Says-as _ _ _ _ _ (ap (λ xs. flat_map (instance_line style s) (take limit xs)) is) c.print_first.ensures.printed))
