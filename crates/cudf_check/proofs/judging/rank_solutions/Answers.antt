use Rattle.std.proofs.Common.{map, IsTrue, subst, sym}
use Rattle.cudf_job.specs.Ranking.{have_own_places}
use Rattle.cudf_device.specs.Readers.{names_in}
use Rattle.cudf_check.specs.JobStyles.{ranking_style}
use Rattle.cudf_check.specs.RankReport.{entrants, ranked_report}
use Rattle.cudf_check.proofs.JudgingLemmas.{entrants_own}
use Rattle.cudf_check.proofs.judging.rank_solutions.Goals as goal

pub rank_entrants-requires : goal.rank_entrants-requires
rank_entrants-requires g c = subst (λ es. IsTrue (have_own_places es)) (sym c.in-Ok.ensures.judged.found) (entrants_own c.args.problem.now 1 (map (λ b. b.items) c.args.solutions.texts.now))

pub returns-in-Err : goal.returns-in-Err
returns-in-Err g c = λ first.
    let aims = c.args.aims.now in
    let style = ranking_style (record { first = first; others = names_in g.S.Source.state c.args.solutions.sources.now }) in
    let solutions = map (λ b. b.items) c.args.solutions.texts.now in
    c.print_unranked.ensures first c.args.setting.mode c.args.problem.now solutions (ranked_report style aims (entrants c.args.problem.now solutions)) c.in-Err.ensures.unranked
