use Rattle.std.proofs.Common.{◌+◌, ap, sym, ◌∙◌, map}
use Rattle.std.proofs.lemmas.List.{take_all}
use Rattle.std.specs.FinSet as set
use Rattle.cudf_value.specs.Promises.Views.{formula_view}
use Rattle.cudf_problem.specs.Promises.Views.{package_view}
use Rattle.cudf_index.specs.Satisfaction.{members, satisfies_clause}
use Rattle.cudf_referee.specs.Explanations.{is_only, needed_by, needs_place}
use Rattle.cudf_referee.specs.Working.Needers.{first_passing, kept_needer, with_clauses, IsCovered}
use Rattle.cudf_referee.proofs.NeederLemmas.{needer_kept, needer_left_out}
use Rattle.cudf_referee.proofs.PartnerLemmas.{is_covered}
use Rattle.cudf_referee.proofs.referee.needers.needers_of.Goals as goal
use Rattle.cudf_referee.proofs.referee.needers.needers_of.Goals.{then-holds+in_ok-add_clauses, else-holds}

pub loop-before-init : goal.loop-before-init
loop-before-init c = λ place among. c.new-needers.ensures place

pub loop-before-preserved : goal.loop-before-preserved
loop-before-preserved c = λ place among.
    let status = c.args.index.now in
    let holds = set.contains c.args.status.now in
    let asked = set.contains c.args.asked.now in
    let packages = c.packages-package-items.result.now in
    let i = c.loop-before.before in
    let next = c.package-item.result in
    let old = kept_needer place c.loop-before.needers in
    let covered : IsCovered c.new-installed.result c.in_ok-partners.partners place = λ clause out.
    ap (λ s. is_only s place clause) (c.new-installed.ensures ∙ c.requires)
    ∙ is_covered holds asked c.args.problem.now.packages place among clause (ap (λ s. satisfies_clause s clause) (sym c.in_ok-partners.ensures) ∙ out) in
    elim c.if-holds.branch [
      | then-holds+in_ok-add_clauses w ↦
          ap (kept_needer place) w.needers-is
          ∙ needer_kept package_view status place holds packages i next c.loop-before-test.true old _ (sym c.holds.ensures ∙ w.if-holds.true) (c.loop-before.invariant place among)
          (w.in_ok-add_clauses.ensures place covered ∙ ap (λ s. with_clauses s (i + 1) place (formula_view next.depends) old) c.new-installed.ensures
          ∙ ap (λ p. with_clauses status (i + 1) place (formula_view p.depends) old) c.package-item.is)
      | else-holds w ↦
          ap (kept_needer place) w.needers-is
          ∙ needer_left_out package_view status place holds packages i next c.loop-before-test.true old (sym c.holds.ensures ∙ w.if-holds.false) (c.loop-before.invariant place among)
    ]

pub returns : goal.returns
unfolding needed_by
returns c = λ place among.
    let all = ap (map package_view) (take_all c.loop-before.before c.packages-package-items.result.now c.loop-before-test.false) ∙ c.packages-package-items.ensures.packages in
    c.loop-before.invariant place among ∙ ap (first_passing (needs_place c.args.index.now place)) (ap (members (set.contains c.args.status.now)) all ∙ sym c.requires)
