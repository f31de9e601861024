use Rattle.std.proofs.Common.{◌≡◌, ◌∙◌, map, filter_map, sym, ap, rules}
use Rattle.std.proofs.lemmas.List.{map_push}
use Rattle.std.proofs.lemmas.Map.Iter.{iter_end}
use Rattle.cudf_document.specs.Working.Judging.{name_without_default}
use Rattle.cudf_document.proofs.DeclarationLemmas.{required_more}
use Rattle.cudf_document.proofs.declarations.Declarations.without_default.Goals as goal

pub loop-declared-preserved : goal.loop-declared-preserved
loop-declared-preserved c =
    let yielded = c.loop-declared.yielded in
    required_more (map (λ n. n.now) c.loop-declared.names.items) (map (λ n. n.now) c.push_required.new.names.items)
    (map (λ d. d.now) yielded) c.in-Some.declared.now c.loop-declared.invariant c.in_ok-push_required.ensures
    ∙ ap (filter_map name_without_default) (sym (map_push (λ d. d.now) yielded c.in-Some.declared))

pub returns : goal.returns
returns c =
    let all : map (λ d. d.now) c.loop-declared.yielded ≡ map (λ e. e.1) c.self.inside.known.entries = search (rules, iter_end) in
    c.loop-declared.invariant ∙ ap (filter_map name_without_default) (all ∙ c.self.view_is)
