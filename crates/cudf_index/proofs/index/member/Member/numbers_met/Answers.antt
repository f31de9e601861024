use Rattle.std.proofs.Common.{◌≡◌, ℕ, ◌+◌, Bool, true, false, cond, List, ap, sym, ◌∙◌, arith, ◌∷◌}
use Rattle.std.specs.Prelude.{filter_map}
use Rattle.std.specs.List.{count_by}
use Rattle.cudf_value.specs.Vpkgs.{PlainVpkg}
use Rattle.cudf_value.specs.Promises.Views.{vpkg_view, list_view}
use Rattle.cudf_problem.specs.Ids.{Id}
use Rattle.cudf_index.specs.Satisfaction.{is_met_by, entry_pair}
use Rattle.cudf_index.specs.Working.Kept.{is_met_by_entry}
use Rattle.cudf_index.proofs.TakenOffLemmas.{pairs_counted}
use Rattle.cudf_index.proofs.index.member.Member.numbers_met.Goals as goal

with_own : (v : PlainVpkg) (own : Id) (es : List PlainVpkg) (n : ℕ) → n ≡ count_by (is_met_by_entry v) es → is_met_by v own ≡ true → n + 1 ≡ count_by (is_met_by v) (own ∷ filter_map entry_pair es)
with_own v own es n e met = omega (arith, pairs_counted v own es, ap one met)
  where
    one : Bool → ℕ
    one b = cond b 1 0

without_own : (v : PlainVpkg) (own : Id) (es : List PlainVpkg) (n : ℕ) → n ≡ count_by (is_met_by_entry v) es → is_met_by v own ≡ false → n ≡ count_by (is_met_by v) (own ∷ filter_map entry_pair es)
without_own v own es n e met = omega (arith, pairs_counted v own es, ap one met)
  where
    one : Bool → ℕ
    one b = cond b 1 0

pub returns-then-version_meets : goal.returns-then-version_meets
returns-then-version_meets c =
    let p = c.args.self.now.package.now in
    with_own (vpkg_view c.args.vpkg.now) (p.name.now, p.version) (list_view p.provides) _ c.numbers_met-entries.ensures.met (sym c.version_meets.ensures ∙ c.if-version_meets.true)

pub returns-else-version_meets : goal.returns-else-version_meets
returns-else-version_meets c =
    let p = c.args.self.now.package.now in
    without_own (vpkg_view c.args.vpkg.now) (p.name.now, p.version) (list_view p.provides) _ c.numbers_met-entries.ensures.met (sym c.version_meets.ensures ∙ c.if-version_meets.false)
