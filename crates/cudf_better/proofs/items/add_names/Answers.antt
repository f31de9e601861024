use Rattle.std.proofs.Common.{◌≡◌, ℕ, ◌+◌, ◌<◌, List, length, get_or, map, sym, ap, subst, eq-eqb, ne_eqb, ◌∙◌, arith}
use Rattle.std.specs.Prelude.{Some}
use Rattle.std.proofs.lemmas.List.{get_or-map, length-map}
use Rattle.std.proofs.lemmas.Option.{slice_get-get_or}
use Rattle.cudf_problem.specs.Promises.Views.{package_view}
use Rattle.cudf_problem.specs.Universe.{PlainPackage}
use Rattle.cudf_better.specs.Better.{Item}
use Rattle.cudf_better.proofs.NamesLemmas.{Added, all_added, name_met, name_new}
use Rattle.cudf_better.proofs.items.add_names.Goals as goal
use Rattle.cudf_better.proofs.items.add_names.Goals.{then-number_at-met+in_ok-add_named, else-number_at-met}

-- the package that is read next, among those that contracts see
read : {A : Type 0} (view : A → PlainPackage) (xs : List A) (ps : List PlainPackage) (i : ℕ) (item : A) → map view xs ≡ ps → i < length xs → item ≡ get_or xs i item → view item ≡ get_or ps i (view item)
read view xs ps i item seen below is = ap view is ∙ sym (get_or-map view xs i item (view item) below) ∙ ap (λ (l : List PlainPackage). get_or l i (view item)) seen

pub loop-index-preserved : goal.loop-index-preserved
loop-index-preserved c =
    let problem = c.args.source.now.problem.now in
    let ps = problem.packages in
    let xs = c.packages-package-items.result.now in
    let i = c.loop-index.index in
    let item = c.package-item.result in
    let p = package_view item in
    let n = c.number_at.result in
    let met = c.loop-index.met in
    let old = c.args.items.now in
    let cur = c.loop-index.items in
    let now = c.if-number_at-met.items in
    let here : p ≡ get_or ps i p = read package_view xs ps i item c.packages-package-items.ensures.packages c.loop-index-test.true c.package-item.is in
    let long : length ps ≡ length xs = sym (ap length c.packages-package-items.ensures.packages) ∙ length-map xs package_view in
    let lt : i < length ps = omega (arith, long, c.loop-index-test.true) in
    let at = c.number_at.ensures p (slice_get-get_or ps i p lt ∙ ap (λ (q : PlainPackage). Some q) (sym here)) in
    elim c.if-number_at-met.branch [
      | then-number_at-met+in_ok-add_named w ↦
          subst (λ (m : ℕ). Added problem c.args.count (i + 1) m old now) (sym w.met-is)
          (name_new problem c.args.count i p n met old cur lt here at c.loop-index.invariant now (eq-eqb n met w.if-number_at-met.true) (w.items-is ∙ w.in_ok-add_named.ensures))
      | else-number_at-met w ↦
          subst (λ (m : ℕ). Added problem c.args.count (i + 1) m old now) (sym w.met-is)
          (subst (λ (xs : List Item). Added problem c.args.count (i + 1) met old xs) (sym w.items-is)
          (name_met problem c.args.count i p n met old cur lt here at c.loop-index.invariant (ne_eqb n met w.if-number_at-met.false)))
    ]

pub returns : goal.returns
returns c =
    let xs = c.packages-package-items.result.now in
    let long : length c.args.source.now.problem.now.packages ≡ length xs = sym (ap length c.packages-package-items.ensures.packages) ∙ length-map xs package_view in
    all_added c.args.source.now.problem.now c.args.count c.loop-index.index c.loop-index.met c.args.items.now c.loop-index.items (omega (arith, long, c.loop-index-test.false)) c.loop-index.invariant
