use Rattle.std.proofs.Common.{ap, codes, map, option_map, sym}
use Rattle.cudf_text.specs.Stanzas.{plain_text}
use Rattle.cudf_problem.specs.Universe.{plain_problem}
use Rattle.cudf_device.proofs.PaperLemmas.{Prints-as}
use Rattle.cudf_check.specs.JobStyles.{named_style, ranking_style}
use Rattle.cudf_check.specs.RankReport.{solutions_report}
use Rattle.cudf_check.specs.Report.{problem_fault}
use Rattle.cudf_check.specs.Styles.{of_problem}
use Rattle.cudf_check.specs.Working.Named.{names_given}
use Rattle.cudf_check.specs.Working.Unjudged.{faulty_or}
use Rattle.cudf_check.proofs.judging.print_rank_report.Goals as goal

pub returns-in-Ok : goal.returns-in-Ok
returns-in-Ok g c =
    let read = c.in-Ok.ensures in
    let style = ranking_style (names_given g.S.Source.state c.args.problem c.args.solutions.sources.now) in
    Prints-as _ _ _ _ _ _ (λ k. faulty_or style of_problem (codes "problem") (sym read.sound k)
    (solutions_report style c.args.aims.now c.args.setting.mode (read.problem k) (map (λ b. b.items) c.args.solutions.texts.now)))
    (c.rank_solutions.ensures (option_map (λ n. n.now) c.args.problem.name))

pub returns : goal.returns
returns g c =
    let mode = c.args.setting.mode in
    let bytes = c.args.problem.bytes.now in
    let style = ranking_style (names_given g.S.Source.state c.args.problem c.args.solutions.sources.now) in
    let rest = solutions_report style c.args.aims.now mode (plain_problem (plain_text bytes)) (map (λ b. b.items) c.args.solutions.texts.now) in
    Prints-as _ _ _ _ _ _ (ap (λ origin. faulty_or (named_style origin) of_problem (codes "problem") (problem_fault mode bytes) rest) c.own_file-origin.ensures) (c.print_unsound.ensures rest)
