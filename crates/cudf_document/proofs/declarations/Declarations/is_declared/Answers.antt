use Rattle.std.proofs.Common.{sym, ap, ◌∙◌, is_some, bytes_eq}
use Rattle.cudf_problem.proofs.ListLemmas.{is_some-find, is_some-option_map}
use Rattle.cudf_document.proofs.declarations.Declarations.is_declared.Goals as goal

pub returns : goal.returns
returns c =
    c.is_some.ensures ∙ sym (is_some-option_map (λ d. d.now) c.find.result) ∙ ap is_some c.find.ensures
    ∙ is_some-find (λ d. bytes_eq c.args.name.now d.name) c.args.self.now
