use Rattle.std.proofs.Common.{◌≡◌, ℕ, List, ◌∷◌, [], ◌++◌, Bor, sym, ap, ◌∙◌, map, find, bytes_eq, None}
use Rattle.std.proofs.lemmas.List.{map_push}
use Rattle.std.specs.Map.{lookup}
use Rattle.indexmap.proofs.CallerLemmas.{insert_entry-new}
use Rattle.cudf_value.specs.Declarations.{PlainDeclaration}
use Rattle.cudf_problem.proofs.ListLemmas.{lookup-find, find_none, option_map-none}
use Rattle.cudf_document.proofs.declarations.Declarations.push.Goals as goal

-- the new entry is last
pushed : (c : goal.Joined-branch-2) → c.insert.new.self.entries ≡ c.self.inside.known.entries ++ (c.name.result, c.args.declared) ∷ []
pushed c =
    let name = c.name.result.now in
    let same = λ (d : PlainDeclaration). d in
    let absent : lookup (λ k. bytes_eq name k.now) c.self.inside.known.entries ≡ None =
    option_map-none same (lookup (λ k. bytes_eq name k.now) c.self.inside.known.entries)
    (lookup-find (λ k. k.now) same (λ d. d.name) name c.self.inside.known.entries c.self.invariant
    ∙ ap (find (λ d. bytes_eq name d.name)) c.self.view_is
    ∙ ap (λ n. find (λ d. bytes_eq n d.name) c.args.self.now) c.name.ensures
    ∙ find_none (λ d. bytes_eq c.args.declared.name d.name) c.args.self.now c.requires) in
    c.in_ok-insert.ensures.entries
    ∙ insert_entry-new (λ x y. bytes_eq x.now y.now) c.self.inside.known c.name.result c.args.declared absent

pub invariant_of-self-2 : goal.invariant_of-self-2
invariant_of-self-2 c =
    let es = c.self.inside.known.entries in
    let e : Bor (List ℕ) × PlainDeclaration = (c.name.result, c.args.declared) in
    ap (map (λ e. e.0.now)) (pushed c) ∙ map_push (λ e. e.0.now) es e ∙ ap (λ names. names ++ c.name.result.now ∷ []) c.self.invariant
    ∙ ap (λ n. map (λ e. e.1.name) es ++ n ∷ []) c.name.ensures
    ∙ sym (map_push (λ e. e.1.name) es e) ∙ sym (ap (map (λ e. e.1.name)) (pushed c))

pub returns : goal.returns
returns c =
    let es = c.self.inside.known.entries in
    let e : Bor (List ℕ) × PlainDeclaration = (c.name.result, c.args.declared) in
    ap (map (λ e. e.1)) (pushed c) ∙ map_push (λ e. e.1) es e
    ∙ ap (λ ds. ds ++ c.args.declared ∷ []) c.self.view_is
