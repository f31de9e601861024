use Rattle.std.proofs.Common.{ap, ◌∙◌, is_some}
use Rattle.cudf_problem.specs.Ids.{is_id}
use Rattle.cudf_problem.proofs.NumberLemmas.{is_some-position}
use Rattle.cudf_problem.proofs.package.PackageIds.contains.Goals as goal

pub returns : goal.returns
returns c = c.is_some.ensures ∙ ap is_some c.index_of.ensures ∙ is_some-position (is_id (c.args.name.now, c.args.version)) c.args.self.now
