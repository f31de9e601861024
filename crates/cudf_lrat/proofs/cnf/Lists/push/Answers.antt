use Rattle.std.proofs.Common.{◌∙◌, sym}
use Rattle.cudf_lrat.proofs.cnf.Lists.push.Goals as goal
use Rattle.cudf_lrat.proofs.ListsLemmas.{joined_pushed, pieces_pushed, was_pushed}

pub invariant_of-self-else-is_err-clause-whole : goal.invariant_of-self-else-is_err-clause-whole
invariant_of-self-else-is_err-clause-whole g c =
    joined_pushed c.args.self.now.items.items c.args.list.now c.extend_from_slice.new.self.items c.args.self.now.spans.items c.push.new.self.items _ c.args.self.now.inside c.in_ok-extend_from_slice.ensures.items (was_pushed c.push.result _ _ _ (sym c.if-is_err.ensures.value) c.push.ensures.items) (c.len-start.ensures ∙ c.args.self.now.items.ok.0) (c.len-end.ensures ∙ c.extend_from_slice.new.self.ok.0) c.args.self.now.whole

pub returns-clause-ok : goal.returns-clause-ok
returns-clause-ok g c =
    pieces_pushed c.args.self.now.items.items c.args.list.now c.extend_from_slice.new.self.items c.args.self.now.spans.items c.push.new.self.items _ c.args.self.now.inside c.in_ok-extend_from_slice.ensures.items (was_pushed c.push.result _ _ _ (sym c.if-is_err.ensures.value) c.push.ensures.items) (c.len-start.ensures ∙ c.args.self.now.items.ok.0) (c.len-end.ensures ∙ c.extend_from_slice.new.self.ok.0)
