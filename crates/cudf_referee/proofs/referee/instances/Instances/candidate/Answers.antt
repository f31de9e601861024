use Rattle.std.proofs.Common.{◌≡◌, ◌+◌, length, Some, ap, sym, ◌∙◌, arith}
use Rattle.std.specs.Prelude.{slice_get}
use Rattle.std.specs.FinSet as set
use Rattle.std.proofs.lemmas.List.{length-map}
use Rattle.std.proofs.lemmas.Option.{slice_get_within}
use Rattle.cudf_problem.specs.Promises.Views.{package_view}
use Rattle.cudf_problem.specs.Statuses.{is_initial}
use Rattle.cudf_referee.specs.Promises.Walks.{Walking}
use Rattle.cudf_referee.specs.Proposals.{holds_place}
use Rattle.cudf_referee.proofs.GroundLemmas.{held-at, initial-at, fits-same}
use Rattle.cudf_referee.proofs.referee.instances.Instances.candidate.Goals as goal

pub overflow_add-place : goal.overflow_add-place
overflow_add-place c =
    omega (
      arith,
      slice_get_within _ c.args.index _ c.requires,
      ap (λ (w : Walking). length w.judged.problem.packages) c.self.view_is,
      ap length c.packages-count.ensures.packages,
      length-map c.packages-count.result.now package_view,
    )

pub returns-clause-fits : goal.returns-clause-fits
returns-clause-fits c =
    let i = c.self.inside in
    let agrees = c.self.invariant.0 in
    let problem = i.problem.now in
    let p = package_view c.args.package.now in
    let is = set.contains i.solution.now.status in
    let here : slice_get problem.packages c.args.index ≡ Some p = ap (λ (w : Walking). slice_get w.judged.problem.packages c.args.index) c.self.view_is ∙ c.requires in
    let below = slice_get_within problem.packages c.args.index p here in
    fits-same _ _ _ c.self.view_is (record {
      was = held-at (is_initial problem) problem.packages c.args.index below ∙ initial-at problem c.args.index p here;
      is = ap (λ ps. holds_place ps (c.args.index + 1)) agrees.is ∙ held-at is problem.packages c.args.index below ∙ sym c.holds.ensures;
    })
