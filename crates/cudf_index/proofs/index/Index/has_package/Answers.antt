use Rattle.std.proofs.Common.{None, Some}
use Rattle.cudf_index.specs.Working.Kept.{Keeps}
use Rattle.cudf_index.proofs.index.Index.has_package.Goals as goal

pub returns-in-Some : goal.returns-in-Some
returns-in-Some c =
    let keeps : Keeps c.args.name.now c.args.self.now (Some c.in-Some.entries.now) = rw c.in-Some.is at c.kept.ensures in
    keeps.is_package

pub returns-in-None : goal.returns-in-None
returns-in-None c =
    let keeps : Keeps c.args.name.now c.args.self.now None = rw c.in-None.is at c.kept.ensures in
    keeps.is_package
