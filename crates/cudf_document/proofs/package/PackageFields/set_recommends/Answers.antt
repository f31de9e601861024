use Rattle.std.proofs.Common.{◌≡◌, true, sym, ap, ◌∙◌, is_some, Some, None, if◌then◌else◌}
use Rattle.cudf_text.specs.declared.fault.Kind.TheVariants.{E9}
use Rattle.cudf_value.specs.Promises.Views.{formula_view}
use Rattle.cudf_problem.specs.Preamble.{recommends_in}
use Rattle.cudf_document.specs.Working.PackageFields.{wrong_kind}
use Rattle.cudf_problem.proofs.ListLemmas.{is_some-option_map}
use Rattle.cudf_document.proofs.PackageLemmas.{recommends_test}
use Rattle.cudf_document.proofs.package.PackageFields.set_recommends.Goals as goal

pub returns-clause-kind : goal.returns-clause-kind
returns-clause-kind c =
    let declared : is_some (recommends_in c.args.declarations.now) ≡ true = sym c.has_recommends.ensures ∙ c.if-not-has_recommends.false in
    c.mistyped_unless.ensures
    ∙ ap (λ b. if b then None else Some E9) (c.is_some.ensures ∙ sym (is_some-option_map formula_view c.read_formula-self.result) ∙ ap is_some c.read_formula-self.ensures)
    ∙ ap (λ t. wrong_kind t c.args.text.now) (sym (recommends_test c.args.declarations.now declared))
