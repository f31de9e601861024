use Rattle.std.proofs.Common.{◌∙◌}
use Rattle.cudf_referee.proofs.LeftLemmas.{whole-left}
use Rattle.cudf_referee.proofs.left.Candidate.all.Goals as goal

pub returns : goal.returns
returns c = λ s fits. whole-left s c.args.self fits _ _ _ (c.clauses.ensures ∙ c.depends-depends.ensures) (c.vpkgs.ensures.vpkgs ∙ c.conflicts-conflicts.ensures) (c.vpkgs-2.ensures.vpkgs ∙ c.features-features.ensures)
