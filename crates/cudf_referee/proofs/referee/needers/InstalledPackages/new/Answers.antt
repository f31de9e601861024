use Rattle.std.proofs.Common.{None, true, ap, sym, ◌∙◌}
use Rattle.std.specs.FinSet as set
use Rattle.cudf_index.specs.Promises.Members.{other_than}
use Rattle.cudf_referee.specs.Working.Needers.{first_passing}
use Rattle.cudf_referee.proofs.NeederLemmas.{other_held}
use Rattle.cudf_referee.proofs.referee.needers.InstalledPackages.new.Goals as goal

pub invariant_of-result : goal.invariant_of-result
invariant_of-result c =
    let holds = set.contains c.args.status.now in
    let packages = c.args.problem.now.packages in (
      c.first_held-first.ensures ∙ ap (first_passing (λ _. true)) (other_held holds None packages ∙ sym c.requires),
      c.first_held-second.ensures ∙ ap (first_passing (λ _. true)) (other_held holds c.first_held-first.result packages ∙ ap (other_than c.first_held-first.result) (sym c.requires)),
    )
