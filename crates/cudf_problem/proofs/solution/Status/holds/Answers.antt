use Rattle.std.proofs.Common.{ap, ◌∙◌, sym}
use Rattle.std.specs.FinSet as set
use Rattle.cudf_problem.specs.Working.Flags.{flag_at}
use Rattle.cudf_problem.proofs.FlagLemmas.{contains-places}
use Rattle.cudf_problem.proofs.solution.Status.holds.Goals as goal

pub returns : goal.returns
returns c =
    c.flag_at.ensures ∙ ap (λ flags. flag_at flags c.args.place) c.deref.ensures.value
    ∙ sym (contains-places c.self.inside.flags.items c.args.place) ∙ ap (λ s. set.contains s c.args.place) c.self.view_is
