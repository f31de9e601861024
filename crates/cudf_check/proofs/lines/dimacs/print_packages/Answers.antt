use Rattle.std.proofs.Common.{◌≡◌, ◌<◌, ◌≤◌, ◌+◌, ◌++◌, length, map, take, get_or, ap, sym, ◌∙◌, arith}
use Rattle.std.proofs.Math.ListN.{get_or-map}
use Rattle.std.proofs.lemmas.List.{length-map}
use Rattle.std.specs.List.{flat_map, enumerate_from}
use Rattle.cudf_problem.specs.Promises.Views.{package_view}
use Rattle.cudf_check.specs.Report.{package_comment}
use Rattle.cudf_device.proofs.PaperLemmas.{Says-as, ◌▸◌, numbered-more, numbered-end}
use Rattle.cudf_check.proofs.lines.dimacs.print_packages.Goals as goal

pub loop-index-preserved : goal.loop-index-preserved
loop-index-preserved g c =
    let packages = c.args.packages.now in
    let viewed = map package_view packages in
    let i = c.loop-index.index in
    let p = c.index-packages-index.result in
    let inside : i < length viewed = omega (arith, length-map packages package_view, c.loop-index-test.true) in
    let is : get_or viewed i (package_view p) ≡ package_view p = get_or-map package_view packages i p ∙ ap package_view (sym c.index-packages-index.is) in
    Says-as _ _ _ _ _ (ap (λ q. flat_map package_comment (take i (enumerate_from 1 viewed)) ++ package_comment (i + 1, q)) (sym is)
    ∙ numbered-more package_comment viewed i (package_view p) inside)
    (c.loop-index.invariant ▸ c.print_package.ensures)

pub returns : goal.returns
returns g c =
    let packages = c.args.packages.now in
    let viewed = map package_view packages in
    let end : length viewed ≤ c.loop-index.index = omega (arith, length-map packages package_view, c.loop-index-test.false) in
    Says-as _ _ _ _ _ (numbered-end package_comment viewed c.loop-index.index end) c.loop-index.invariant
