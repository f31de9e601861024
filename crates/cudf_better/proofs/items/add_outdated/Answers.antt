use Rattle.std.proofs.Common.{ℕ, ◌<◌, ◌==◌, ◌^◌, not, length, ◌∷◌, [], ◌++◌, List, map, ap, subst, sym, ◌∙◌}
use Rattle.std.specs.Prelude.{All}
use Rattle.std.proofs.lemmas.List.Elements.{All-filter}
use Rattle.cudf_index.specs.Promises.Places.{is_named}
use Rattle.cudf_cnf.specs.Cnf.{is_in}
use Rattle.cudf_cnf.proofs.PlaceLemmas.{when}
use Rattle.cudf_better.specs.Better.{item}
use Rattle.cudf_better.specs.Working.Sources.{is_version_at}
use Rattle.cudf_better.proofs.SourceLemmas.{latest_found, others_found, outdated_none, outdated_put, small_places, version_found}
use Rattle.cudf_better.proofs.items.add_outdated.Goals as goal

pub returns-then-is_empty : goal.returns-then-is_empty
returns-then-is_empty c =
    let s = c.args.source.now in
    let name = c.args.name.now in
    let top = version_found s.problem.now s.all c.deref.result.now name c.latest-version.result s.every (c.deref.ensures.value ∙ c.in_ok-all_named.ensures) c.latest-version.ensures in
    let others = others_found s.problem.now s.all c.all_named-2.new.places.items c.retain_other_versions.new.places.items name c.latest-version.result s.every c.in_ok-all_named-2.ensures top c.retain_other_versions.ensures in
    outdated_none s.problem.now name c.retain_other_versions.new.places.items c.args.items.now others (ap (λ k. k == 0) (sym c.retain_other_versions.new.places.ok.0) ∙ sym c.if-is_empty.ensures)

pub add_places-requires : goal.add_places-requires
add_places-requires c =
    let s = c.args.source.now in
    let small = small_places s.problem.now.packages s.all (is_named c.args.name.now) c.all_named-2.new.places.items s.every s.few c.in_ok-all_named-2.ensures in
    subst (λ (ns : List ℕ). All (λ n. n < 2 ^ 32) ns) (sym (c.deref-2.ensures.value ∙ c.retain_other_versions.ensures))
    (All-filter (λ n. not (is_version_at s.problem.now c.latest-version.result n)) (λ n. n < 2 ^ 32) c.all_named-2.new.places.items small)

pub add_places-requires-2 : goal.add_places-requires-2
add_places-requires-2 c =
    let s = c.args.source.now in
    let small = small_places s.problem.now.packages s.all (is_named c.args.name.now) c.all_named.new.places.items s.every s.few c.in_ok-all_named.ensures in
    subst (λ (ns : List ℕ). All (λ n. n < 2 ^ 32) ns) (sym (c.deref-3.ensures.value ∙ c.retain_version.ensures))
    (All-filter (is_version_at s.problem.now c.latest-version.result) (λ n. n < 2 ^ 32) c.all_named.new.places.items small)

pub returns : goal.returns
returns c =
    let s = c.args.source.now in
    let name = c.args.name.now in
    let old = c.args.items.now in
    let top = version_found s.problem.now s.all c.deref.result.now name c.latest-version.result s.every (c.deref.ensures.value ∙ c.in_ok-all_named.ensures) c.latest-version.ensures in
    let others = others_found s.problem.now s.all c.all_named-2.new.places.items c.deref-2.result.now name c.latest-version.result s.every c.in_ok-all_named-2.ensures top (c.deref-2.ensures.value ∙ c.retain_other_versions.ensures) in
    let latest = latest_found s.problem.now s.all c.all_named.new.places.items c.deref-3.result.now name c.latest-version.result s.every c.in_ok-all_named.ensures top (c.deref-3.ensures.value ∙ c.retain_version.ensures) in
    let some = c.deref-4.ensures.value ∙ c.in_ok-add_places.ensures ∙ ap (λ ls. ls ++ map is_in c.deref-2.result.now) c.new-some.ensures.items ∙ others in
    let none = c.deref-5.ensures.value ∙ c.in_ok-add_places-2.ensures ∙ ap (λ ls. ls ++ map is_in c.deref-3.result.now) c.new-none.ensures.items ∙ latest in
    when c.push.result c.push.ensures
    (λ e. e ∙ (λ j. old ++ item (some j) (none j) ∷ []) ∙ outdated_put s.problem.now name c.deref-2.result.now old others (ap (λ ns. length ns == 0) c.deref-2.ensures.value ∙ ap (λ k. k == 0) (sym c.retain_other_versions.new.places.ok.0) ∙ sym c.if-is_empty.ensures))
