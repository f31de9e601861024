use Rattle.std.proofs.Common.{if◌then◌else◌, ap, sym, subst}
use Rattle.cudf_text.specs.Stanzas.{plain_text}
use Rattle.cudf_check.specs.RankReport.{judgement_of}
use Rattle.cudf_check.specs.Report.{proposal_of}
use Rattle.cudf_job.specs.declared.ranking.Judgement.TheVariants.{SaysFail}
use Rattle.cudf_check.specs.Working.Unjudged.{IsUnjudged}
use Rattle.cudf_check.proofs.judging.fail_or_error.Goals as goal

pub returns-in-SaysFail-clause-judged : goal.returns-in-SaysFail-clause-judged
returns-in-SaysFail-clause-judged c = λ mode problem bytes is.
    let unjudged = subst (IsUnjudged mode problem.extra_names bytes) c.in-SaysFail.is is in
    record {
      found = ap (λ b. if b then SaysFail else judgement_of (proposal_of problem (plain_text bytes))) (sym unjudged.1);
      sound = unjudged.0;
    }

pub returns-in-Unread-clause-fault : goal.returns-in-Unread-clause-fault
returns-in-Unread-clause-fault c = λ mode names bytes is. subst (IsUnjudged mode names bytes) c.in-Unread.is is
