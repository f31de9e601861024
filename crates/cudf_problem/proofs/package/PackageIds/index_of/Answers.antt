use Rattle.std.proofs.Common.{◌≡◌, [], get_or, ap, sym, ◌∙◌, Some, None, position, bytes_eq}
use Rattle.cudf_problem.specs.Ids.{is_id}
use Rattle.cudf_problem.specs.Promises.Names.{names_of_ids}
use Rattle.cudf_problem.specs.Working.Numbers.{texts, other_index}
use Rattle.cudf_problem.proofs.ListLemmas.{position-map}
use Rattle.cudf_problem.proofs.NumberLemmas.{text_at, no_place}
use Rattle.cudf_problem.proofs.package.PackageIds.index_of.Goals as goal

pub returns-in-Some : goal.returns-in-Some
returns-in-Some c =
    let name = c.args.name.now in
    let keys = c.self.inside.names.keys in
    let at : position (bytes_eq name) (texts keys) ≡ Some c.in-Some.number = sym (sym c.in-Some.is ∙ c.get_index_of.ensures.index ∙ position-map (λ k. k.now) (bytes_eq name) keys) in
    let named : names_of_ids c.args.self.now ≡ texts keys = sym (c.self.invariant.names_are ∙ ap names_of_ids c.self.view_is) in
    c.find.ensures
    ∙ ap (λ text. position (is_id (text, c.args.version)) c.args.self.now)
    (ap (λ ns. get_or ns c.in-Some.number []) named ∙ sym (text_at (texts keys) name c.in-Some.number at).1)

pub returns-in-None : goal.returns-in-None
returns-in-None c =
    let name = c.args.name.now in
    let keys = c.self.inside.names.keys in
    let none : position (bytes_eq name) (texts keys) ≡ None = sym (sym c.in-None.is ∙ c.get_index_of.ensures.index ∙ position-map (λ k. k.now) (bytes_eq name) keys) in
    sym (no_place (texts keys) c.self.inside.pairs.items c.self.inside.firsts.items (other_index c.self.inside.others) c.self.invariant name c.args.version none)
    ∙ ap (position (is_id (name, c.args.version))) c.self.view_is
