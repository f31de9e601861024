use Rattle.std.proofs.Common.{◌∙◌, map, subst, sym}
use Rattle.cudf_device.specs.Promises.Answering.{Answers}
use Rattle.cudf_device.specs.Readers.{ReadsAll, change, changes}
use Rattle.cudf_device.proofs.InputsLemmas.{behind_still, each_still, names-before, none_still, too_long_fails, unfinished_fails}
use Rattle.cudf_check.specs.JobReport.{report}
use Rattle.cudf_check.specs.Naming.{names_of}
use Rattle.cudf_check.specs.Working.Named.{names_given}
use Rattle.cudf_check.proofs.MeaningLemmas.{run_means}
use Rattle.cudf_check.proofs.RunLemmas.{all_answered, first_stopped, was_read}
use Rattle.cudf_check.proofs.run.Goals as goal

pub returns-in_err-text-clause-runs : goal.returns-in_err-text-clause-runs
returns-in_err-text-clause-runs g c =
    let state = g.S.Source.state in
    first_stopped _ _ _ _ c.read_all.result _ _ (none_still state _ (too_long_fails state) _) (none_still state _ (unfinished_fails state) _) c.in_err-text.was
    c.read_all.ensures.too_long c.read_all.ensures.read c.read_all.ensures.no_write c.from_residual.ensures

pub returns-in_err-text-clause-behind : goal.returns-in_err-text-clause-behind
returns-in_err-text-clause-behind g c = behind_still g.S.Source.state _

pub returns-in_err-text-clause-other_calls : goal.returns-in_err-text-clause-other_calls
returns-in_err-text-clause-other_calls g c = each_still g.S.Source.state _

pub returns-clause-runs : goal.returns-clause-runs
returns-clause-runs g c =
    let job = c.args.job.now in
    let mode = c.args.mode in
    let state = g.S.Source.state in
    let first = change g.R.Source.state c.args.first.now c.read_all.new.source in
    let others = changes state c.args.others.now c.read_each.new.sources in
    let before = g.W.Sink.state c.args.out.now in
    let after = g.W.Sink.state c.answer_job.new.out in
    let text = c.in_ok-text.text.items in
    let texts = map (λ b. b.items) c.in_ok-texts.texts.items in
    let read = c.in_ok-text.ensures in
    let reads = c.in_ok-texts.ensures.reads in
    let name = c.given.ensures.name ∙ read.named in
    let names = c.in_ok-texts.ensures.named ∙ sym (names-before state c.args.others.now c.read_each.new.sources ReadsAll texts reads.all c.read_each.auto.sources) in
    all_answered (report job mode (names_of first others)) first text others texts
    (was_read first text c.in_ok-text.text read.all read.too_long read.read read.calls)
    (record { all = reads.all; finished = λ h. absurd (cc (reads.read.1 h)); short = λ h. absurd (cc (reads.too_long.1 h)) })
    before after c.answer_job.result
    (subst (λ r. Answers before after r c.answer_job.result)
    (λ k. report job mode (record { first = name k; others = names k }) ((c.given.ensures.bytes ∙ c.deref-2.ensures.value) k) (map (λ b. b.items) (c.deref.ensures.value k)))
    c.answer_job.ensures)

pub returns-clause-meaning : goal.returns-clause-meaning
returns-clause-meaning g c =
    let job = c.args.job.now in
    let mode = c.args.mode in
    let state = g.S.Source.state in
    let first = change g.R.Source.state c.args.first.now c.read_all.new.source in
    let others = changes state c.args.others.now c.read_each.new.sources in
    let before = g.W.Sink.state c.args.out.now in
    let after = g.W.Sink.state c.answer_job.new.out in
    let names = names_given state c.given.result c.read_each.new.sources in
    let texts = map (λ b. b.items) c.in_ok-texts.texts.items in
    run_means c.refuted.ensures c.solution.ensures c.better.ensures.satisfies c.better.ensures.best job mode names first others (record { before = before; after = after }) c.in_ok-text.text.items texts c.answer_job.result
    c.in_ok-text.ensures.all c.in_ok-texts.ensures.reads.all
    (subst (λ r. Answers before after r c.answer_job.result)
    (λ k. report job mode names ((c.given.ensures.bytes ∙ c.deref-2.ensures.value) k) (map (λ b. b.items) (c.deref.ensures.value k)))
    c.answer_job.ensures)
