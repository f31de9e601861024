use Rattle.std.proofs.Common.{◌∙◌, Some, None, map, refl, ap, sym}
use Rattle.std.proofs.lemmas.List.{append-nil, map_push}
use Rattle.cudf_problem.specs.Promises.Views.{unknown_view}
use Rattle.cudf_document.proofs.PlacedLemmas.{IsPlaced-next}
use Rattle.cudf_document.proofs.solution.InstalledFlags.add.Goals as goal

pub returns-in-Some : goal.returns-in-Some
returns-in-Some c = λ before so_far.
    IsPlaced-next c.args.problem.now before (unknown_view c.args.installed) c.args.self.now _ (Some c.in-Some.index) c.in-Some.ensures.distinct c.in-Some.ensures.index so_far
    refl (sym (append-nil (map unknown_view c.args.self.now.unknown.items)))

pub returns-in_ok-push-in-None : goal.returns-in_ok-push-in-None
returns-in_ok-push-in-None c = λ before so_far.
    IsPlaced-next c.args.problem.now before (unknown_view c.args.installed) c.args.self.now _ None c.in-None.ensures.distinct c.in-None.ensures.index so_far
    refl (ap (map unknown_view) c.in_ok-push-in-None.ensures.items ∙ map_push unknown_view c.args.self.now.unknown.items c.args.installed)
