use Rattle.std.proofs.Common.{ap, refl, subst, sym}
use Rattle.cudf_device.specs.Readers.{names_in}
use Rattle.cudf_device.specs.Promises.PaperInside.{Says}
use Rattle.cudf_device.proofs.PaperLemmas.{Prints-as}
use Rattle.cudf_check.specs.JobStyles.{named_style, ranking_style}
use Rattle.cudf_check.specs.Naming.{entrant_word, own_file}
use Rattle.cudf_check.specs.Report.{faulty}
use Rattle.cudf_check.specs.Styles.{of_solution}
use Rattle.cudf_check.specs.Working.Judged.{IsFaultAt, first_faulty_or}
use Rattle.cudf_check.proofs.judging.print_unranked.Goals as goal

pub returns-in-Fault : goal.returns-in-Fault
returns-in-Fault g c = λ first mode problem solutions report is.
    let place = c.args.unranked.place in
    let style = ranking_style (record { first = first; others = names_in g.S.Source.state c.args.sources.now }) in
    Prints-as _ _ _ _ _ _ (ap (λ found. first_faulty_or style found report) (sym (subst (λ e. IsFaultAt mode problem solutions place e) c.in-Fault.is is)))
    (record {
      said = subst (λ name. Says g.W.Sink.state c.args.paper.now c.print_faulty_solution.new.paper (faulty (named_style (own_file name)) of_solution (entrant_word name place) c.in-Fault.fault).text) c.name_at.ensures
          c.print_faulty_solution.ensures;
      answered = refl;
      untouched = tt;
    })

pub returns-in-Memory : goal.returns-in-Memory
returns-in-Memory g c = λ first mode problem solutions report is. record { said = tt; answered = tt; untouched = refl }
