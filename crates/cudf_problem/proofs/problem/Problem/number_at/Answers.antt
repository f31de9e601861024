use Rattle.std.proofs.Common.{◌≡◌, List, get_or, map, ap, ◌∙◌, position, bytes_eq}
use Rattle.std.proofs.lemmas.List.{get_or-map}
use Rattle.std.proofs.lemmas.Option.{slice_get_within, get_or_from_slice_get}
use Rattle.cudf_problem.specs.Ids.{Id}
use Rattle.cudf_problem.specs.Promises.Names.{names_of_ids}
use Rattle.cudf_problem.specs.Universe.{PlainPackage, package_id}
use Rattle.cudf_problem.proofs.problem.Problem.number_at.Goals as goal

pub returns : goal.returns
returns c = λ p at.
    let packages = c.args.self.now.packages in
    let index = c.args.index in
    let ids : c.self.inside.ids ≡ map package_id packages = c.self.invariant.0 ∙ ap (λ problem. map package_id problem.packages) c.self.view_is in
    let named = ap (λ (l : List Id). (get_or l index (package_id p)).0) ids
    ∙ ap (λ (x : Id). x.0) (get_or-map package_id packages index p (package_id p) (slice_get_within packages index p at))
    ∙ ap (λ (x : PlainPackage). x.name) (get_or_from_slice_get packages index p p at) in
    c.number_at.ensures (package_id p) ∙ (λ i. position (bytes_eq (named i)) (names_of_ids (ids i)))
