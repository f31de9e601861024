use Rattle.std.proofs.Common.{length, drop, arith, lit<, ◌∙◌}
use Rattle.std.proofs.lemmas.Iterator.Consumers.{YieldsList-turn, YieldsList-end}
use Rattle.std.proofs.lemmas.Iterator.Splits.{YieldsList-from_str_split}
use Rattle.std.proofs.lemmas.List.{length_push}
use Rattle.cudf_value.specs.Parts.{parts, read_parts}
use Rattle.cudf_job.specs.Promises.Aims.{aim_of, criterion}
use Rattle.cudf_job.proofs.AimLemmas.{with_rest, aim_read, aim_missing, aims_read}
use Rattle.cudf_job.proofs.criteria.read_criterion.Goals as goal

pub loop-part-preserved : goal.loop-part-preserved
loop-part-preserved c =
    let text = c.args.text.now in
    let texts = parts 44 text in
    let yielded = c.loop-part.yielded in
    let here = YieldsList-turn (YieldsList-from_str_split 44 text (lit< tt) (cc) (cc) (cc)) yielded _ c.loop-part.yielded_by _ _ c.in-Some.part c.in-Some.is c.next.ensures.steps in
    (λ k. with_rest (c.in_ok-push-in-Some-parse.ensures.items k) (drop (length_push yielded c.in-Some.part k) texts))
    ∙ aim_read c.loop-part.aims.items texts (length yielded) c.in-Some.part.now (read_parts 44 aim_of text) here c.loop-part.invariant c.in-Some-parse.aim c.in-Some-parse.ensures

pub returns-in-None-parse : goal.returns-in-None-parse
unfolding criterion
returns-in-None-parse c =
    let text = c.args.text.now in
    let texts = parts 44 text in
    let yielded = c.loop-part.yielded in
    let here = YieldsList-turn (YieldsList-from_str_split 44 text (lit< tt) (cc) (cc) (cc)) yielded _ c.loop-part.yielded_by _ _ c.in-Some.part c.in-Some.is c.next.ensures.steps in
    aim_missing c.loop-part.aims.items texts (length yielded) c.in-Some.part.now (read_parts 44 aim_of text) here c.loop-part.invariant c.in-None-parse.ensures

pub returns : goal.returns
unfolding criterion
returns c =
    let text = c.args.text.now in
    let texts = parts 44 text in
    let yielded = c.loop-part.yielded in
    let all = YieldsList-end (YieldsList-from_str_split 44 text (lit< tt) (cc) (cc) (cc)) yielded _ c.loop-part.yielded_by _ _ c.in-None.is c.next.ensures.steps in
    aims_read c.loop-part.aims.items texts (length yielded) (read_parts 44 aim_of text) (omega (arith, all.1)) c.loop-part.invariant
