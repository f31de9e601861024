use Rattle.std.proofs.Common.{◌∙◌, map, option_map, slice_get}
use Rattle.cudf_device.specs.Readers.{names_in}
use Rattle.cudf_device.proofs.PaperLemmas.{Prints-as}
use Rattle.cudf_check.specs.JobStyles.{explains}
use Rattle.cudf_check.specs.Working.Found.{found_text}
use Rattle.cudf_check.specs.Working.Named.{names_given}
use Rattle.cudf_check.proofs.ReadingLemmas.{cnf_better_of, first_style, pair_of, rank_of, refute_better_of, refute_of}
use Rattle.cudf_check.proofs.report.print_report.Goals as goal

pub returns-in-Check : goal.returns-in-Check
returns-in-Check g c =
    let job = c.args.job.now in
    let mode = c.args.setting.mode in
    let input = c.args.first.bytes.now in
    let texts = map (λ b. b.items) c.args.others.texts.now in
    let names = names_given g.S.Source.state c.args.first c.args.others.sources.now in
    let second = c.first.result in
    Prints-as _ _ _ _ _ _ (c.split_inputs.ensures (explains job) mode (found_text job)
    ∙ first_style mode (explains job) (found_text job) (option_map (λ n. n.now) c.args.first.name) (names_in g.S.Source.state c.args.others.sources.now) input second (slice_get texts 0) c.first.ensures.bytes c.first.ensures.name
    ∙ pair_of job mode names input texts c.in-Check.is)
    c.judge_pair.ensures

pub returns-in-CnfBetter : goal.returns-in-CnfBetter
returns-in-CnfBetter g c =
    let names = names_given g.S.Source.state c.args.first c.args.others.sources.now in
    let texts = map (λ b. b.items) c.args.others.texts.now in
    Prints-as _ _ _ _ _ _ (cnf_better_of c.in-CnfBetter.aims c.args.job.now c.args.setting.mode names c.args.first.bytes.now texts c.in-CnfBetter.is c.deref-in-CnfBetter.result.now c.deref-in-CnfBetter.ensures.value c.text.result.now c.text.ensures)
    c.print_better_report.ensures

pub returns-in-RefuteBetter : goal.returns-in-RefuteBetter
returns-in-RefuteBetter g c =
    let names = names_given g.S.Source.state c.args.first c.args.others.sources.now in
    let texts = map (λ b. b.items) c.args.others.texts.now in
    let proof = c.text-in-RefuteBetter in
    let solution = c.text-in-RefuteBetter-2 in
    Prints-as _ _ _ _ _ _ (refute_better_of c.in-RefuteBetter.aims c.args.job.now c.args.setting.mode names c.args.first.bytes.now texts c.in-RefuteBetter.is c.deref-in-RefuteBetter.result.now c.deref-in-RefuteBetter.ensures.value proof.result.now proof.ensures solution.result.now solution.ensures)
    c.print_better_report-in-RefuteBetter.ensures

pub returns-in-Rank : goal.returns-in-Rank
returns-in-Rank g c =
    let names = names_given g.S.Source.state c.args.first c.args.others.sources.now in
    let texts = map (λ b. b.items) c.args.others.texts.now in
    Prints-as _ _ _ _ _ _ (rank_of c.in-Rank.aims c.args.job.now c.args.setting.mode names c.args.first.bytes.now texts c.in-Rank.is c.deref.result.now c.deref.ensures.value)
    c.print_rank_report.ensures

pub returns-in-Refute : goal.returns-in-Refute
returns-in-Refute g c =
    let names = names_given g.S.Source.state c.args.first c.args.others.sources.now in
    let texts = map (λ b. b.items) c.args.others.texts.now in
    Prints-as _ _ _ _ _ _ (refute_of c.in-Refute.explain c.args.job.now c.args.setting.mode names c.args.first.bytes.now texts c.in-Refute.is c.text-in-Refute.result.now c.text-in-Refute.ensures)
    c.refute_problem.ensures
