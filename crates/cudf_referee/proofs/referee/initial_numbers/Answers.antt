use Rattle.std.proofs.Common.{◌≡◌, ◌+◌, Some, None, refl, ap, sym, ◌∙◌}
use Rattle.std.specs.Prelude.{slice_get}
use Rattle.cudf_problem.specs.Promises.Views.{package_view}
use Rattle.cudf_problem.specs.Statuses.{is_initial}
use Rattle.cudf_index.specs.Satisfaction.{package_pairs}
use Rattle.cudf_referee.specs.Proposals.{everything}
use Rattle.cudf_referee.specs.Working.Before.{kept_greatest, with_pairs}
use Rattle.cudf_referee.proofs.BeforeLemmas.{pairs_none, greatest_kept, greatest_left_out}
use Rattle.cudf_referee.proofs.GroundLemmas.{initial-at}
use Rattle.cudf_referee.proofs.SearchLemmas.{package-here}
use Rattle.cudf_referee.proofs.referee.initial_numbers.Goals as goal
use Rattle.cudf_referee.proofs.referee.initial_numbers.Goals.{then-package+in_ok-add_package, else-package}

pub loop-package-init : goal.loop-package-init
loop-package-init c = λ f. c.new-kept.ensures f ∙ sym (pairs_none f None)

pub loop-package-preserved : goal.loop-package-preserved
loop-package-preserved c = λ f.
    let problem = c.args.problem.now in
    let packages = c.packages-package-items.result.now in
    let i = c.loop-package.package-index in
    let next = c.package-item.result in
    let old = kept_greatest f c.loop-package.kept in
    let here : slice_get problem.packages i ≡ Some (package_view next) =
    package-here (everything problem) (everything problem) packages i next c.packages-package-items.ensures.packages refl c.loop-package-test.true c.package-item.is in
    let was : is_initial problem (i + 1) ≡ next.installed = initial-at problem i (package_view next) here in
    elim c.if-package.branch [
      | then-package+in_ok-add_package w ↦
          ap (kept_greatest f) w.kept-is
          ∙ greatest_kept package_view f (is_initial problem) packages i next c.loop-package-test.true old _ (was ∙ w.if-package.true) (c.loop-package.invariant f)
          (w.in_ok-add_package.ensures f ∙ ap (λ p. with_pairs f (package_pairs (package_view p)) old) c.package-item.is)
      | else-package w ↦
          ap (kept_greatest f) w.kept-is
          ∙ greatest_left_out package_view f (is_initial problem) packages i next c.loop-package-test.true old (was ∙ w.if-package.false) (c.loop-package.invariant f)
    ]
