use Rattle.std.proofs.Common.{◌≡◌, ◌≤◌, ℕ, length, ◌+◌, ◌==◌, List, ap, sym, ◌∙◌, None, Some, arith, subst}
use Rattle.std.specs.Prelude.{option_map, find}
use Rattle.std.specs.Option.{IfSome}
use Rattle.std.specs.FinSet as set
use Rattle.cudf_value.specs.Promises.Views.{vpkg_view}
use Rattle.cudf_index.specs.Satisfaction.{Placed}
use Rattle.cudf_index.specs.Promises.Prices.{own_entries, own_cost}
use Rattle.cudf_index.specs.Working.Members.{member_view}
use Rattle.cudf_index.proofs.TakenOffLemmas.{numbers_split, names_split}
use Rattle.cudf_index.proofs.index.Index.own.Goals as goal

-- ---- many provisions, searched by name

pub returns-in-Some-clause-numbers : goal.returns-in-Some-clause-numbers
returns-in-Some-clause-numbers c =
    let v = vpkg_view c.args.vpkg.now in
    numbers_split (set.contains c.self.inside.status) c.self.inside.problem.now.packages c.args.self.now c.self.view_is v c.args.place (Some c.in-Some.share.now)
    (subst (λ o. IfSome o (λ s. Some s.now ≡ find (λ p. p.0 == c.args.place) c.args.self.now)) c.in-Some.is c.share.ensures) _ c.met.ensures.numbers

pub returns-in-Some-clause-unversioned : goal.returns-in-Some-clause-unversioned
returns-in-Some-clause-unversioned c =
    let v = vpkg_view c.args.vpkg.now in
    names_split (set.contains c.self.inside.status) c.self.inside.problem.now.packages c.args.self.now c.self.view_is v.name c.args.place (Some c.in-Some.share.now)
    (subst (λ o. IfSome o (λ s. Some s.now ≡ find (λ p. p.0 == c.args.place) c.args.self.now)) c.in-Some.is c.share.ensures) _ c.met.ensures.unversioned

share_priced : (q : Placed) (place : ℕ) (status : List Placed) (old new : ℕ) → Some q ≡ find (λ p. p.0 == place) status → new ≤ old + own_entries (Some q) → new ≤ old + own_cost status place
share_priced q place status old new found all =
    let cost : own_entries (Some q) ≡ own_cost status place = ap own_entries found in
    omega (arith, cost, all)

pub returns-in-Some-clause-price : goal.returns-in-Some-clause-price
returns-in-Some-clause-price c =
    share_priced c.in-Some.share.now c.args.place c.args.self.now c.args.steps.now c.met.new.steps
    (subst (λ o. IfSome o (λ s. Some s.now ≡ find (λ p. p.0 == c.args.place) c.args.self.now)) c.in-Some.is c.share.ensures) c.met.ensures.price

-- ---- few, gone through

pub returns-in-Some-member-clause-numbers : goal.returns-in-Some-member-clause-numbers
returns-in-Some-member-clause-numbers c =
    let v = vpkg_view c.args.vpkg.now in
    numbers_split (set.contains c.self.inside.status) c.self.inside.problem.now.packages c.args.self.now c.self.view_is v c.args.place (Some (member_view c.in-Some-member.member)) (ap (option_map member_view) (sym c.in-Some-member.is) ∙ c.member.ensures) _ c.numbers_met.ensures

pub returns-in-Some-member-clause-unversioned : goal.returns-in-Some-member-clause-unversioned
returns-in-Some-member-clause-unversioned c =
    let v = vpkg_view c.args.vpkg.now in
    names_split (set.contains c.self.inside.status) c.self.inside.problem.now.packages c.args.self.now c.self.view_is v.name c.args.place (Some (member_view c.in-Some-member.member)) (ap (option_map member_view) (sym c.in-Some-member.is) ∙ c.member.ensures) _ c.unversioned.ensures

priced : (q : Placed) (place : ℕ) (status : List Placed) (old ticked new n : ℕ) → Some q ≡ find (λ p. p.0 == place) status → ticked ≡ old + 1 → new ≡ ticked + n → n ≡ length q.1.provides → new ≤ old + own_cost status place
priced q place status old ticked new n found one more all =
    let cost : own_entries (Some q) ≡ own_cost status place = ap own_entries found in
    omega (arith, cost)

pub returns-in-Some-member-clause-price : goal.returns-in-Some-member-clause-price
returns-in-Some-member-clause-price c =
    priced (member_view c.in-Some-member.member) c.args.place c.args.self.now c.args.steps.now c.grow_by.new.self c.grow_by-in-Some-member.new.self c.len.result
    (ap (option_map member_view) (sym c.in-Some-member.is) ∙ c.member.ensures) c.grow_by.ensures c.grow_by-in-Some-member.ensures c.len.ensures.len

-- ---- a place that the status doesn't hold

pub returns-in-None-clause-numbers : goal.returns-in-None-clause-numbers
returns-in-None-clause-numbers c =
    numbers_split (set.contains c.self.inside.status) c.self.inside.problem.now.packages c.args.self.now c.self.view_is (vpkg_view c.args.vpkg.now) c.args.place None (ap (option_map member_view) (sym c.in-None.is) ∙ c.member.ensures) _ (ap (λ own. own.numbers) c.none.ensures)

pub returns-in-None-clause-unversioned : goal.returns-in-None-clause-unversioned
returns-in-None-clause-unversioned c =
    names_split (set.contains c.self.inside.status) c.self.inside.problem.now.packages c.args.self.now c.self.view_is c.args.vpkg.now.name.now c.args.place None (ap (option_map member_view) (sym c.in-None.is) ∙ c.member.ensures) _ (ap (λ own. own.unversioned) c.none.ensures)

pub returns-in-None-clause-price : goal.returns-in-None-clause-price
returns-in-None-clause-price c = omega arith
