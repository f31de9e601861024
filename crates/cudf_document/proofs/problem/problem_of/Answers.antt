use Rattle.std.proofs.Common.{true, sym, ◌∙◌}
use Rattle.cudf_document.specs.Working.Kept.{AreParts}
use Rattle.cudf_document.proofs.PartsLemmas.{faultless, ready, problem_is}
use Rattle.cudf_document.proofs.problem.problem_of.Goals as goal

pub returns-in-Some-clause-fault : goal.returns-in-Some-clause-fault
returns-in-Some-clause-fault c = sym c.in_ok-walk.ensures.first_is ∙ c.in-Some.is

pub into_problem-requires : goal.into_problem-requires
into_problem-requires c = ready c.in_ok-walk.parts c.in_ok-walk.walk c.args.stanzas c.args.mode c.in_ok-walk.ensures c.in_default.is

pub returns-clause-sound : goal.returns-clause-sound
returns-clause-sound c = faultless c.args.mode (λ ss. AreParts true ss c.in_ok-walk.parts) c.in_ok-walk.walk c.args.stanzas c.in_ok-walk.ensures c.in_default.is

pub returns-clause-problem : goal.returns-clause-problem
returns-clause-problem c = c.in_ok-into_problem.ensures ∙ problem_is c.in_ok-walk.parts c.in_ok-walk.walk c.args.stanzas c.args.mode c.in_ok-walk.ensures c.in_default.is
