use Rattle.std.proofs.Common.{option_map, find, bytes_eq, ap, ◌∙◌}
use Rattle.cudf_value.specs.Declarations.{PlainDeclaration}
use Rattle.cudf_problem.proofs.ListLemmas.{lookup-find, option_map-copied}
use Rattle.cudf_document.proofs.declarations.Declarations.find.Goals as goal

pub returns : goal.returns
returns c =
    option_map-copied (λ (d : PlainDeclaration). d) c.get.result
    ∙ ap (option_map (λ (d : PlainDeclaration). d)) c.get.ensures.value
    ∙ lookup-find (λ k. k.now) (λ (d : PlainDeclaration). d) (λ d. d.name) c.args.name.now c.self.inside.known.entries c.self.invariant
    ∙ ap (find (λ d. bytes_eq c.args.name.now d.name)) c.self.view_is
