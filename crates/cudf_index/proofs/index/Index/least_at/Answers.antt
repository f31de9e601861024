use Rattle.std.proofs.Common.{◌≡◌, ◌==◌, ◌∙◌, Some, None, ap, sym, subst}
use Rattle.std.specs.Prelude.{find, option_map}
use Rattle.std.specs.FinSet as set
use Rattle.std.specs.Option.{IfSome}
use Rattle.cudf_index.specs.Working.Members.{member_view}
use Rattle.cudf_index.proofs.EndLemmas.{least_none}
use Rattle.cudf_index.proofs.LeastLemmas.{least_there}
use Rattle.cudf_index.proofs.index.Index.least_at.Goals as goal

pub returns-in-Some : goal.returns-in-Some
returns-in-Some c =
    least_there (set.contains c.self.inside.status) c.self.inside.problem.now.packages c.args.self.now c.self.view_is c.args.name.now c.args.place (Some c.in-Some.share.now)
    (subst (λ o. IfSome o (λ s. Some s.now ≡ find (λ p. p.0 == c.args.place) c.args.self.now)) c.in-Some.is c.share.ensures) c.least.result c.least.ensures

pub returns-in-Some-member : goal.returns-in-Some-member
returns-in-Some-member c =
    least_there (set.contains c.self.inside.status) c.self.inside.problem.now.packages c.args.self.now c.self.view_is c.args.name.now c.args.place (Some (member_view c.in-Some-member.member))
    (ap (option_map member_view) (sym c.in-Some-member.is) ∙ c.member.ensures) c.least-in-Some-member.result c.least-in-Some-member.ensures

pub returns-in-None : goal.returns-in-None
returns-in-None c =
    least_there (set.contains c.self.inside.status) c.self.inside.problem.now.packages c.args.self.now c.self.view_is c.args.name.now c.args.place None
    (ap (option_map member_view) (sym c.in-None.is) ∙ c.member.ensures) None least_none
