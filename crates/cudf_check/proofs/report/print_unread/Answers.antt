use Rattle.std.proofs.Common.{ap, refl, sym, ◌∙◌, subst, option_map}
use Rattle.cudf_device.proofs.PaperLemmas.{Prints-as}
use Rattle.cudf_check.specs.Report.{faulty}
use Rattle.cudf_check.specs.Styles.{of_problem}
use Rattle.cudf_check.specs.Working.Named.{detailed_style, origin_view, style_for}
use Rattle.cudf_check.specs.Working.Unjudged.{IsFaultOf, faulty_or}
use Rattle.cudf_check.proofs.report.print_unread.Goals as goal

pub returns-in-Ok : goal.returns-in-Ok
returns-in-Ok g c = λ fault report is.
    let origin = option_map origin_view c.args.document.origin in
    let whose = c.args.document.whose.now in
    let same = subst (IsFaultOf fault) c.in-Fault.is is in
    Prints-as _ _ _ _ _ _ (ap (λ detail. faulty (detailed_style origin detail) of_problem whose c.in-Fault.fault) c.in-Ok.ensures ∙ ap (λ f. faulty_or (style_for c.args.document) of_problem whose f report) (sym same))
    (record { said = c.print_faulty.ensures; answered = refl; untouched = tt })

pub returns-in-Fault : goal.returns-in-Fault
returns-in-Fault g c = λ fault report is. record { said = tt; answered = tt; untouched = refl }

pub returns : goal.returns
returns g c = λ fault report is. record { said = tt; answered = tt; untouched = refl }
