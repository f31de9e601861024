use Rattle.std.proofs.Common.{Some, sym, ap, ◌∙◌}
use Rattle.cudf_value.specs.Promises.Views.{vpkg_view}
use Rattle.cudf_job.specs.KeyViews.{key_view}
use Rattle.cudf_referee.specs.Instances.{PlainWhat, upgrade}
use Rattle.cudf_referee.specs.Promises.Views.{what_view}
use Rattle.cudf_cnf.specs.Working.Parts.{is_many_what}
use Rattle.cudf_cnf.proofs.InstanceLemmas.{not_many}
use Rattle.cudf_cnf.proofs.encoder.many_of.Goals as goal

pub returns-in_default : goal.returns-in_default
returns-in_default c = not_many c.args.instance.now.what _ c.in_default.not-Upgrade

pub returns-in-Some-Many : goal.returns-in-Some-Many
returns-in-Some-Many c = (ap what_view c.in-Upgrade.is, sym c.aspect.ensures ∙ c.in-Some-Many.is ∙ ap Some c.in-Some-Many.field-0-is)

pub returns-in-None : goal.returns-in-None
returns-in-None c = ap (λ (w : PlainWhat). is_many_what w (key_view c.args.instance.now.key).aspect) (ap what_view c.in-Upgrade.is) ∙ ap (is_many_what (upgrade (vpkg_view c.in-Upgrade.vpkg))) (sym c.aspect.ensures ∙ c.in-None.is)

pub returns-in-Some-Unsatisfied : goal.returns-in-Some-Unsatisfied
returns-in-Some-Unsatisfied c = ap (λ (w : PlainWhat). is_many_what w (key_view c.args.instance.now.key).aspect) (ap what_view c.in-Upgrade.is) ∙ ap (is_many_what (upgrade (vpkg_view c.in-Upgrade.vpkg))) (sym c.aspect.ensures ∙ c.in-Some-Unsatisfied.is ∙ ap Some c.in-Some-Unsatisfied.field-0-is)

pub returns-in-Some-Lower : goal.returns-in-Some-Lower
returns-in-Some-Lower c = ap (λ (w : PlainWhat). is_many_what w (key_view c.args.instance.now.key).aspect) (ap what_view c.in-Upgrade.is) ∙ ap (is_many_what (upgrade (vpkg_view c.in-Upgrade.vpkg))) (sym c.aspect.ensures ∙ c.in-Some-Lower.is ∙ ap Some c.in-Some-Lower.field-0-is)
