use Rattle.std.proofs.Common.{sym, ap, ◌∙◌, map, take}
use Rattle.std.proofs.lemmas.List.{take-map}
use Rattle.cudf_document.proofs.declarations.Declarations.truncate.Goals as goal

pub invariant_of-self : goal.invariant_of-self
invariant_of-self c =
    ap (map (λ e. e.0.now)) c.truncate.ensures.entries
    ∙ sym (take-map (λ e. e.0.now) c.args.n c.self.inside.known.entries) ∙ ap (take c.args.n) c.self.invariant
    ∙ take-map (λ e. e.1.name) c.args.n c.self.inside.known.entries ∙ sym (ap (map (λ e. e.1.name)) c.truncate.ensures.entries)

pub returns : goal.returns
returns c =
    ap (map (λ e. e.1)) c.truncate.ensures.entries
    ∙ sym (take-map (λ e. e.1) c.args.n c.self.inside.known.entries) ∙ ap (take c.args.n) c.self.view_is
