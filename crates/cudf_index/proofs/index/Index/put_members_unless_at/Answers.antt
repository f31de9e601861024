use Rattle.std.proofs.Common.{ap, sym, ◌∙◌}
use Rattle.std.specs.Option.{is_some}
use Rattle.cudf_problem.proofs.ListLemmas.{is_some-option_map}
use Rattle.cudf_index.specs.Working.Members.{member_view}
use Rattle.cudf_index.proofs.ClauseLemmas.{here_passes, members_add}
use Rattle.cudf_index.proofs.index.Index.put_members_unless_at.Goals as goal

pub returns-then-is_some : goal.returns-then-is_some
returns-then-is_some c =
    sym (here_passes c.args.own c.args.self.now) ∙ ap is_some (sym c.member.ensures) ∙ is_some-option_map member_view c.member.result ∙ sym c.is_some.ensures ∙ c.if-is_some.true

pub returns : goal.returns
returns c = members_add c.args.self.now c.args.places.now.items c.put_members.new.places.items c.in_ok-put_members.ensures
