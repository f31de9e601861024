use Rattle.std.proofs.Common.{true, ap, sym, ◌∙◌}
use Rattle.cudf_index.specs.Promises.Members.{other_than}
use Rattle.cudf_index.specs.Satisfaction.{without}
use Rattle.cudf_referee.specs.Working.Needers.{first_passing}
use Rattle.cudf_referee.proofs.NeederLemmas.{beside_is}
use Rattle.cudf_referee.proofs.referee.needers.InstalledPackages.first_other.Goals as goal

pub returns-in-Some : goal.returns-in-Some
returns-in-Some c =
    let installed = c.self.inside in
    let place = c.in-Some.place in
    c.first_beside.ensures ∙ beside_is place installed.index.now installed.first installed.second c.self.invariant.0 c.self.invariant.1
    ∙ ap (λ status. first_passing (λ _. true) (without place status)) c.self.view_is
    ∙ ap (λ except. first_passing (λ _. true) (other_than except c.args.self.now)) (sym c.in-Some.is)
