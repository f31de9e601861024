use Rattle.std.proofs.Common.{◌≡◌, ◌<◌, ◌≤◌, ◌+◌, ◌-◌, ℕ, List, length, take, drop, map, ◌++◌, get_or, ap, sym, ◌∙◌, arith, length-drop}
use Rattle.std.proofs.lemmas.List.{drop-drop, take_rest}
use Rattle.std.specs.List.{flat_map}
use Rattle.cudf_job.specs.declared.key.Part.{Part}
use Rattle.cudf_reasons.specs.Reasons.{PlainReason, ascending, core_of}
use Rattle.cudf_reasons.specs.Views.{needed_view}
use Rattle.cudf_reasons.specs.Working.Gathered.{literals_in, other_places}
use Rattle.cudf_reasons.specs.declared.gathering.NeededClause.{NeededClause}
use Rattle.cudf_reasons.proofs.GatherLemmas.{core_step, first_read}
use Rattle.cudf_reasons.proofs.gathering.tabulate.Goals as goal

pub loop-start-preserved : goal.loop-start-preserved
loop-start-preserved c =
    let needed : List NeededClause = c.args.needed.now in
    let start : ℕ = c.loop-start.start in
    let count : ℕ = c.count_of_key-count.result in
    let rest : List NeededClause = take (length needed - start) (drop start needed) in
    let is : rest ≡ drop start needed = take_rest needed start in
    let x : NeededClause = get_or needed start c.index-needed-start.result in
    let inside : start < length needed = c.loop-start-test.true in
    let within : count ≤ length rest = c.count_of_key-count.ensures.within in
    let long : length rest ≡ length needed - start = ap length is ∙ length-drop start needed in
    let first : x ≡ get_or rest 0 x = first_read needed start c.index-needed-start.result inside ∙ ap (λ (ns : List NeededClause). get_or ns 0 x) (sym is) in
    let step = core_step c.loop-start.table rest count x c.deref.result.now c.deref-in-loop-start.result.now (omega arith) first within
    c.count_of_key-count.ensures.same c.count_of_key-count.ensures.other
    (c.deref.ensures.value ∙ c.in_ok-gather.ensures.named)
    (c.deref-in-loop-start.ensures.value ∙ c.in_ok-gather.ensures.met ∙ ap (λ (part : Part). ascending (flat_map (other_places part) (literals_in (take count rest)))) c.part.ensures.value) in
    let later : drop count rest ≡ drop (start + count) needed = ap (drop count) is ∙ drop-drop count start needed in
    record {
      within = omega arith;
      core =
          ap (λ (ns : List NeededClause). c.push.new.self ++ core_of (map needed_view ns)) (sym later)
          ∙ ap (λ (rs : List PlainReason). rs ++ core_of (map needed_view (drop count rest))) (c.in_ok-push.ensures.ok)
          ∙ step
          ∙ ap (λ (ns : List NeededClause). c.loop-start.table ++ core_of (map needed_view ns)) is
          ∙ c.loop-start.invariant.core;
    }
