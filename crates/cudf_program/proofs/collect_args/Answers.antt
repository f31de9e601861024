use Rattle.std.proofs.Common.{◌≡◌, ◌∙◌, length, map-id, rules, sym}
use Rattle.std.specs.Vec.Iter.{into_iter_items, into_iter_len}
use Rattle.std.proofs.lemmas.Iterator.Adapters.{YieldsList-from_vec}
use Rattle.std.proofs.lemmas.Iterator.Consumers.{YieldsList-end}
use Rattle.cudf_program.proofs.collect_args.Goals as goal

pub returns : goal.returns
returns c =
    let start = c.into_iter-word-iterator.result in
    let items : into_iter_items start ≡ into_iter_items c.args.args = search rules in
    let len : into_iter_len start ≡ length (into_iter_items c.args.args) = search rules in
    let all = YieldsList-end (YieldsList-from_vec (into_iter_items c.args.args) items len) c.loop-word.yielded c.loop-word.word-iterator c.loop-word.yielded_by
    c.next.result c.next.new.self c.in-None.is c.next.ensures.steps in
    c.loop-word.invariant ∙ (sym (map-id c.loop-word.yielded) ∙ all.0)
