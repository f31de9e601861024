use Rattle.std.proofs.Common.{sym, ap, ◌∙◌, option_map, Some, None, if◌then◌else◌}
use Rattle.cudf_text.specs.declared.fault.Kind.TheVariants.{E9}
use Rattle.cudf_document.specs.Working.Tests.{declared_test}
use Rattle.cudf_document.specs.Working.PackageFields.{wrong_kind}
use Rattle.cudf_document.proofs.DeclarationLemmas.{test_of-declared}
use Rattle.cudf_document.proofs.declarations.Declarations.wrong_kind.Goals as goal

pub returns-in-Some : goal.returns-in-Some
returns-in-Some c =
    c.mistyped_unless.ensures ∙ ap (λ b. if b then None else Some E9) c.fits.ensures
    ∙ ap (λ t. wrong_kind t c.args.text.now)
    (sym (test_of-declared c.args.name.now c.args.self.now ∙ ap (option_map (λ d. (declared_test d).1)) (sym c.in-Some.ensures)))

pub returns-in-None : goal.returns-in-None
returns-in-None c =
    ap (λ t. wrong_kind t c.args.text.now)
    (sym (test_of-declared c.args.name.now c.args.self.now ∙ ap (option_map (λ d. (declared_test d).1)) (sym c.in-None.ensures)))
