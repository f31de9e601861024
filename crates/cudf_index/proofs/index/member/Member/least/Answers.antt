use Rattle.std.proofs.Common.{sym, ◌∙◌}
use Rattle.cudf_index.specs.Working.Members.{member_view}
use Rattle.cudf_index.proofs.LeastLemmas.{least_own, least_other}
use Rattle.cudf_index.proofs.index.member.Member.least.Goals as goal

pub returns-then-eq : goal.returns-then-eq
returns-then-eq c = least_own c.args.name.now (member_view c.args.self.now) c.least_given.result (sym c.eq.ensures ∙ c.if-eq.true) c.least_given.ensures

pub returns : goal.returns
returns c = least_other c.args.name.now (member_view c.args.self.now) c.least_given-2.result (sym c.eq.ensures ∙ c.if-eq.false) c.least_given-2.ensures
