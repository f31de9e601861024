use Rattle.std.proofs.Common.{◌≡◌, map, take, arith, ap, sym, ◌∙◌}
use Rattle.std.proofs.lemmas.List.{take_all}
use Rattle.std.proofs.lemmas.Simd.{map-map}
use Rattle.cudf_problem.specs.declared.package.Package.{Package}
use Rattle.cudf_problem.specs.Promises.Views.{package_view}
use Rattle.cudf_referee.specs.Working.Named.{has_kept_name}
use Rattle.cudf_referee.proofs.ListLemmas.{map-more}
use Rattle.cudf_referee.proofs.referee.kept_name_flags.Goals as goal

pub loop-package-init : goal.loop-package-init
loop-package-init c = c.in_ok-named.ensures.items

pub loop-package-preserved : goal.loop-package-preserved
loop-package-preserved c =
    let flag = λ (p : Package). has_kept_name c.args.status.now (package_view p) in
    map-more flag c.packages-packages.result.now c.loop-package.package-index c.package-item.result c.loop-package.named.items c.has_kept_name.result c.push.new.self.items
    c.loop-package-test.true c.loop-package.invariant c.package-item.is c.has_kept_name.ensures c.in_ok-push.ensures.items

pub returns : goal.returns
returns c =
    let items = c.packages-packages.result.now in
    let all : take c.loop-package.package-index items ≡ items = take_all c.loop-package.package-index items (omega arith) in
    c.loop-package.invariant
    ∙ ap (map (λ (p : Package). has_kept_name c.args.status.now (package_view p))) all
    ∙ sym (map-map (has_kept_name c.args.status.now) package_view items)
    ∙ ap (map (has_kept_name c.args.status.now)) c.packages-packages.ensures.packages
