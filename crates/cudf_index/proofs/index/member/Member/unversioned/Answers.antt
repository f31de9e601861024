use Rattle.std.proofs.Common.{sym, ◌∙◌}
use Rattle.cudf_value.specs.Promises.Views.{list_view}
use Rattle.cudf_index.proofs.TakenOffLemmas.{names_counted}
use Rattle.cudf_index.proofs.index.member.Member.unversioned.Goals as goal

pub returns : goal.returns
returns c = c.unversioned.ensures ∙ sym (names_counted c.args.name.now (list_view c.args.self.now.package.now.provides))
