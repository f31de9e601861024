use Rattle.std.proofs.Common.{◌≡◌, ap, ◌∙◌, map, take, arith, ℕ, sym}
use Rattle.std.proofs.lemmas.List.{take_all}
use Rattle.cudf_problem.specs.Working.Flags.{places_from, flag_at}
use Rattle.std.specs.FinSet as set
use Rattle.std.specs.Ordering.{nat_cmp}
use Rattle.cudf_problem.specs.Promises.Views.{package_view}
use Rattle.cudf_problem.specs.Statuses.{is_initial}
use Rattle.cudf_problem.proofs.StatusLemmas.{within_universe}
use Rattle.cudf_problem.proofs.FlagLemmas.{contains-places, flag_at-flags}
use Rattle.cudf_problem.proofs.solution.initial.Goals as goal

places : (c : goal.After-loop-package) → (place : ℕ) → set.contains (set.from_list {R = nat_cmp} (places_from 1 c.loop-package.flags.items)) place ≡ is_initial c.args.problem.now place
places c =
    let items = c.packages-package-items.result.now in
    let all : take c.loop-package.package-index items ≡ items = take_all c.loop-package.package-index items (omega arith) in
    let flags : c.loop-package.flags.items ≡ map (λ p. p.installed) c.args.problem.now.packages =
    c.loop-package.invariant ∙ ap (λ l. map (λ p. p.installed) (map package_view l)) all ∙ ap (map (λ p. p.installed)) c.packages-package-items.ensures.packages in
    λ place. contains-places c.loop-package.flags.items place ∙ ap (λ l. flag_at l place) flags
    ∙ flag_at-flags (λ p. p.installed) c.args.problem.now.packages place

pub returns-clause-places : goal.returns-clause-places
returns-clause-places c = places c

pub returns-clause-within : goal.returns-clause-within
returns-clause-within c = λ place there. within_universe (λ p. p.installed) c.args.problem.now place (sym (places c place) ∙ there)
