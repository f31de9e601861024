use Rattle.std.proofs.Common.{◌≡◌, ℕ, ◌+◌, ◌-◌, ◌<◌, ◌==◌, Bool, true, false, ap, sym, ◌∙◌, List, Option, None, arith, map, subst, length, get_or, Bor}
use Rattle.std.specs.Prelude.{option_map, find, slice_get}
use Rattle.std.specs.Option.{is_some, IfSome}
use Rattle.std.proofs.Math.Dec.{ltb}
use Rattle.cudf_problem.specs.declared.package.Package.{Package}
use Rattle.std.specs.FinSet as set
use Rattle.std.proofs.lemmas.Option.{slice_get-map}
use Rattle.cudf_problem.specs.Universe.{PlainPackage}
use Rattle.cudf_problem.specs.Promises.Views.{package_view}
use Rattle.cudf_problem.proofs.ListLemmas.{option_map-option_map}
use Rattle.cudf_index.specs.Satisfaction.{Placed, members}
use Rattle.cudf_index.proofs.TakenOffLemmas.{got, find_below, find_unheld, find_at_place}
use Rattle.cudf_index.proofs.index.Index.member.Goals as goal

none_at_zero : (holds : ℕ → Bool) (packages : List PlainPackage) (status : List Placed) (place : ℕ) → members holds packages ≡ status → place ≡ 0 → None ≡ find (λ q. q.0 == place) status
none_at_zero holds packages status place view e = sym (find_below holds place 1 packages (omega arith)) ∙ ap (find (λ q. q.0 == place)) view

none_unheld : (holds : ℕ → Bool) (packages : List PlainPackage) (status : List Placed) (place : ℕ) → members holds packages ≡ status → holds place ≡ false → None ≡ find (λ q. q.0 == place) status
none_unheld holds packages status place view e = sym (find_unheld holds place 1 packages e) ∙ ap (find (λ q. q.0 == place)) view

at_place : (holds : ℕ → Bool) (packages : List PlainPackage) (status : List Placed) (place k : ℕ) → members holds packages ≡ status → 1 + k ≡ place → holds place ≡ true
    → option_map (λ p. (place, p)) (slice_get packages k) ≡ find (λ q. q.0 == place) status
at_place holds packages status place k view e held =
    subst (λ n. option_map (λ p. (n, p)) (slice_get packages k) ≡ find (λ q. q.0 == n) status) e
    (sym (find_at_place holds k 1 packages (ap holds e ∙ held)) ∙ ap (find (λ q. q.0 == 1 + k)) view)

pub returns-then-place-eq0 : goal.returns-then-place-eq0
returns-then-place-eq0 c = none_at_zero (set.contains c.self.inside.status) c.self.inside.problem.now.packages c.args.self.now c.args.place c.self.view_is (omega arith)

-- a package that is read of the universe
read_view : (xs : List Package) (packages : List PlainPackage) (k : ℕ) (o : Option (Bor Package)) → map package_view xs ≡ packages → option_map (λ x. x.now) o ≡ slice_get xs k → option_map (λ x. package_view x.now) o ≡ slice_get packages k
read_view xs packages k o view read =
    sym (option_map-option_map package_view (λ (x : Bor Package). x.now) o) ∙ ap (option_map package_view) read ∙ sym (slice_get-map package_view xs k) ∙ ap (λ ps. slice_get ps k) view

module _ (holds : ℕ → Bool) (packages : List PlainPackage) (status : List Placed) (place : ℕ) (xs : List Package) (o : Option (Bor Package)) where
  member_found : members holds packages ≡ status → 0 < place → holds place ≡ true → map package_view xs ≡ packages → is_some o ≡ ltb (place - 1) (length xs) → IfSome o (λ x. x.now ≡ get_or xs (place - 1) x.now)
      → option_map {U = Placed} (λ x. (place, package_view x.now)) o ≡ find (λ q. q.0 == place) status
  member_found view positive held same is at =
      sym (option_map-option_map {C = Placed} (λ p. (place, p)) (λ (x : Bor Package). package_view x.now) o)
      ∙ ap (option_map {U = Placed} (λ p. (place, p))) (read_view xs packages (place - 1) o same (got xs (place - 1) o is at))
      ∙ at_place holds packages status place (place - 1) view (omega arith) held

pub returns-then-not-holds : goal.returns-then-not-holds
returns-then-not-holds c = none_unheld (set.contains c.self.inside.status) c.self.inside.problem.now.packages c.args.self.now c.args.place c.self.view_is (sym c.holds.ensures ∙ c.if-not-holds.true)

pub returns-in-Some : goal.returns-in-Some
returns-in-Some c =
    ap (option_map {U = Placed} (λ x. (c.args.place, package_view x.now))) (sym c.in-Some.is)
    ∙ member_found (set.contains c.self.inside.status) c.self.inside.problem.now.packages c.args.self.now c.args.place c.packages.result.now c.get.result
    c.self.view_is (omega arith) (sym c.holds.ensures ∙ c.if-not-holds.false) c.packages.ensures.packages c.get.ensures.lookup.0 c.get.ensures.lookup.1

pub returns-in-None : goal.returns-in-None
returns-in-None c =
    ap (option_map {U = Placed} (λ x. (c.args.place, package_view x.now))) (sym c.in-None.is)
    ∙ member_found (set.contains c.self.inside.status) c.self.inside.problem.now.packages c.args.self.now c.args.place c.packages.result.now c.get.result
    c.self.view_is (omega arith) (sym c.holds.ensures ∙ c.if-not-holds.false) c.packages.ensures.packages c.get.ensures.lookup.0 c.get.ensures.lookup.1
