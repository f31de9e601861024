use Rattle.std.proofs.Common.{◌≡◌, ◌++◌, ◌∷◌, [], ◌∙◌, map, sym, ap, rules}
use Rattle.std.proofs.lemmas.List.{map_push}
use Rattle.std.proofs.lemmas.Map.Iter.{iter_end}
use Rattle.cudf_document.proofs.declarations.Declarations.names.Goals as goal

pub loop-declared-preserved : goal.loop-declared-preserved
loop-declared-preserved c =
    let yielded = c.loop-declared.yielded in
    ap (map (λ n. n.now)) c.in_ok-push.ensures.items ∙ map_push (λ n. n.now) c.loop-declared.names.items c.name.result
    ∙ (λ i. c.loop-declared.invariant i ++ c.name.ensures i ∷ [])
    ∙ sym (ap (map (λ d. d.name)) (map_push (λ d. d.now) yielded c.in-Some.declared) ∙ map_push (λ d. d.name) (map (λ d. d.now) yielded) c.in-Some.declared.now)

pub returns : goal.returns
returns c =
    let all : map (λ d. d.now) c.loop-declared.yielded ≡ map (λ e. e.1) c.self.inside.known.entries = search (rules, iter_end) in
    c.loop-declared.invariant ∙ ap (map (λ d. d.name)) (all ∙ c.self.view_is)
