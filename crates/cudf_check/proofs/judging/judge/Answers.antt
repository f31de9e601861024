use Rattle.std.proofs.Common.{if◌then◌else◌, map, ap, sym, ◌∙◌}
use Rattle.std.specs.FinSet as set
use Rattle.cudf_text.specs.Stanzas.{plain_text}
use Rattle.cudf_problem.specs.Promises.Views.{unknown_view}
use Rattle.cudf_check.specs.RankReport.{judgement_of}
use Rattle.cudf_check.specs.Report.{proposal_of}
use Rattle.cudf_job.specs.declared.ranking.Judgement.TheVariants.{SaysFail}
use Rattle.cudf_check.proofs.ReadingLemmas.{put_forward}
use Rattle.cudf_check.proofs.judging.judge.Goals as goal

pub returns-in-Ok-clause-judged : goal.returns-in-Ok-clause-judged
returns-in-Ok-clause-judged c =
    let problem = c.args.problem.now in
    let text = plain_text c.args.bytes.now in
    let of = c.in_ok-solution-in-Ok.ensures in
    let solution = c.in_ok-solution-in-Ok.solution in
    let is = c.in-Ok.ensures.proposed in
    record {
      found = c.judgement_by.ensures
          ∙ ap judgement_of (c.in_ok-referee-in-Ok.ensures
          ∙ put_forward problem text (set.contains solution.status) (map unknown_view solution.unknown.items) (of.status text.stanzas is) (of.unknown text.stanzas is))
          ∙ ap (λ b. if b then SaysFail else judgement_of (proposal_of problem text)) (sym c.in-Ok.ensures.goes_on);
      sound = c.in-Ok.ensures.sound;
    }

pub returns-clause-fault : goal.returns-clause-fault
returns-clause-fault c = c.fail_or_error.ensures.fault c.args.setting.mode c.args.problem.now.extra_names c.args.bytes.now c.in-Err.ensures.unjudged
