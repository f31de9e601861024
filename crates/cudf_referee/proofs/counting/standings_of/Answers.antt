use Rattle.std.proofs.Common.{◌≡◌, ℕ, Bool, ◌+◌, ◌<◌, List, length, get_or, map, take, Some, arith, ap, sym, ◌∙◌}
use Rattle.std.proofs.Math.ListN.{set as with_item}
use Rattle.std.specs.Prelude.{replicate, slice_get}
use Rattle.std.specs.FinSet as set
use Rattle.std.specs.List.{enumerate_from}
use Rattle.std.proofs.lemmas.List.{take_all, get_or-map, get_or_read, length-map}
use Rattle.std.proofs.lemmas.Option.{slice_get-get_or}
use Rattle.cudf_problem.specs.Promises.Names.{names_in}
use Rattle.cudf_problem.specs.Promises.Views.{package_view}
use Rattle.cudf_problem.specs.Universe.{PlainPackage}
use Rattle.cudf_referee.specs.declared.counting.Standing.{Standing}
use Rattle.cudf_referee.specs.Working.Standings.{standing_of, standing_with}
use Rattle.cudf_referee.proofs.StandingLemmas.{none_standing, numbered_names, standing_added, standing_within, next_fresh, next_places}
use Rattle.cudf_referee.proofs.counting.standings_of.Goals as goal

-- the package that is read next, among those that are seen
got : {A : Type 0} (view : A → PlainPackage) (xs : List A) (ps : List PlainPackage) (i : ℕ) (item : A) → map view xs ≡ ps → i < length xs → item ≡ get_or xs i item → slice_get ps i ≡ Some (view item)
got view xs ps i item seen below is =
    ap (λ l. slice_get l i) (sym seen) ∙ slice_get-get_or (map view xs) i (view item) (omega (arith, below, length-map xs view))
    ∙ ap Some (get_or-map view xs i item (view item) below ∙ ap view (sym is))

pub loop-index-init : goal.loop-index-init
loop-index-init c =
    c.in_ok-standings.ensures.items_if_clones_equal (λ y e. e)
    ∙ (λ i. replicate (c.name_count.ensures i) (c.new.ensures i))
    ∙ none_standing (names_in c.args.problem.now.packages) (set.contains c.args.before.now) (set.contains c.args.proposed.now)

-- a number of a name has a standing
pub index-standing-requires : goal.index-standing-requires
index-standing-requires c =
    let xs = c.packages-package-items.result.now in
    let i = c.loop-index.index in
    let at = c.number_at-number.ensures (package_view c.package-item.result)
    (got package_view xs c.args.problem.now.packages i c.package-item.result c.packages-package-items.ensures.packages c.loop-index-test.true c.package-item.is) in
    omega (
      arith,
      standing_within (set.contains c.args.before.now) (set.contains c.args.proposed.now) (enumerate_from 1 (map package_view (take i xs))) c.args.problem.now.packages c.loop-index.standings.items
          c.package-item.result.name.now c.number_at-number.result at c.loop-index.invariant,
      c.loop-index.standings.ok,
    )

pub index_mut-requires : goal.index_mut-requires
index_mut-requires c =
    let xs = c.packages-package-items.result.now in
    let i = c.loop-index.index in
    let at = c.number_at-number.ensures (package_view c.package-item.result)
    (got package_view xs c.args.problem.now.packages i c.package-item.result c.packages-package-items.ensures.packages c.loop-index-test.true c.package-item.is) in
    omega (
      arith,
      standing_within (set.contains c.args.before.now) (set.contains c.args.proposed.now) (enumerate_from 1 (map package_view (take i xs))) c.args.problem.now.packages c.loop-index.standings.items
          c.package-item.result.name.now c.number_at-number.result at c.loop-index.invariant,
      c.loop-index.standings.ok,
    )

-- what is written
written : (rows : List Standing) (n : ℕ) (row new : Standing) (version : ℕ) (was is : ℕ → Bool) (place : ℕ) (a b : Bool) → n < length rows → row ≡ get_or rows n row
    → new ≡ standing_with row version a b → a ≡ was place → b ≡ is place → (d : Standing) → with_item rows n new ≡ with_item rows n (standing_with (get_or rows n d) version (was place) (is place))
written rows n row new version was is place a b lt read made held kept d =
    ap (with_item rows n) (made ∙ (λ i. standing_with (get_or_read rows n row lt read d i) version (held i) (kept i)))

pub loop-index-preserved : goal.loop-index-preserved
loop-index-preserved c =
    let xs = c.packages-package-items.result.now in
    let i = c.loop-index.index in
    let item = c.package-item.result in
    let packages = c.args.problem.now.packages in
    let was = set.contains c.args.before.now in
    let is = set.contains c.args.proposed.now in
    let rows = c.loop-index.standings.items in
    let n = c.number_at-number.result in
    let at = c.number_at-number.ensures (package_view item) (got package_view xs packages i item c.packages-package-items.ensures.packages c.loop-index-test.true c.package-item.is) in
    let within = standing_within was is (enumerate_from 1 (map package_view (take i xs))) packages rows item.name.now n at c.loop-index.invariant in
    standing_added was is (enumerate_from 1 (map package_view (take i xs))) (i + 1, package_view item) packages rows (with_item rows n c.with.result) n
    (next_fresh package_view xs packages i item c.packages-package-items.ensures.packages c.packages-package-items.ensures.distinct c.loop-index-test.true c.package-item.is)
    at c.loop-index.invariant
    (written rows n c.index-standing.result.now c.with.result item.version was is (i + 1) c.holds.result c.holds-in-loop-index.result within c.index-standing.ensures c.with.ensures c.holds.ensures c.holds-in-loop-index.ensures)
    ∙ ap (λ ps. map (standing_of was is ps) (names_in packages)) (next_places package_view xs i item c.loop-index-test.true c.package-item.is)

pub returns : goal.returns
returns c =
    let xs = c.packages-package-items.result.now in
    let packages = c.args.problem.now.packages in
    let was = set.contains c.args.before.now in
    let is = set.contains c.args.proposed.now in
    let all : map package_view (take c.loop-index.index xs) ≡ packages = ap (map package_view) (take_all c.loop-index.index xs (omega arith)) ∙ c.packages-package-items.ensures.packages in
    c.loop-index.invariant ∙ (λ i. map (standing_of was is (enumerate_from 1 (all i))) (numbered_names packages i))
