use Rattle.std.proofs.Common.{◌≡◌, ◌<◌, ℕ, true, false, Bool, List, length, get_or, map, filter, take, subst, ap, sym, ◌∙◌, arith}
use Rattle.std.specs.Prelude.{All}
use Rattle.std.proofs.lemmas.List.{get_or_default}
use Rattle.cudf_reasons.specs.Reasons.{PlainReason, brought, is_brought_by, is_new, with_reason, with_reasons}
use Rattle.cudf_reasons.specs.Working.Tables.{reason_at}
use Rattle.cudf_reasons.specs.Working.Walks.{IsRunOf, Progress}
use Rattle.cudf_reasons.specs.declared.gathering.Run.{Run}
use Rattle.cudf_reasons.proofs.MarkLemmas.{follows_empty, follows_none, followed_marked, next_passes, run_begins, run_ends, run_within}
use Rattle.cudf_reasons.proofs.WalkLemmas.{all_told}
use Rattle.cudf_reasons.proofs.walk.Walk.follow_package.Goals as goal

pub returns-then-run : goal.returns-then-run
returns-then-run c =
    let p : Progress = c.args.self.now in
    let run : Run = c.run_of-run.result in
    ap (λ (t : List PlainReason). record p { told = t })
    (follows_empty p.core p.told c.args.place run (subst (λ (q : Progress). IsRunOf q.core c.args.place run) c.self.view_is c.run_of-run.ensures) c.if-run.true)

pub returns-then-index : goal.returns-then-index
returns-then-index c =
    let core : List PlainReason = c.self.inside.table.now in
    let followed : List Bool = c.self.inside.is_followed.items in
    let run : Run = c.run_of-run.result in
    let within : run.start < length followed = omega (arith, c.self.invariant.packages, c.run_of-run.ensures.within, c.if-run.false) in
    let was : get_or followed run.start false ≡ true = sym (c.index.ensures ∙ get_or_default followed run.start c.index.result.now false within) ∙ c.if-index.true in
    subst (λ (q : Progress). q ≡ record q { told = with_reasons q.told (brought q.core c.args.place) }) c.self.view_is
    (ap (λ (t : List PlainReason). record { core = core; told = t })
    (follows_none core c.self.inside.order.items c.self.inside.is_told.items followed c.self.invariant c.args.place run c.run_of-run.ensures c.if-run.false was))

pub loop-index-init : goal.loop-index-init
loop-index-init c =
    let p : Progress = c.args.self.now in
    let run : Run = c.run_of-run.result in
    ap (λ (xs : List PlainReason). record p { told = with_reasons p.told xs })
    (sym (run_begins p.core c.args.place run (subst (λ (q : Progress). IsRunOf q.core c.args.place run) c.self.view_is c.run_of-run.ensures)))

pub loop-index-preserved : goal.loop-index-preserved
loop-index-preserved c =
    let p : Progress = c.args.self.now in
    let run : Run = c.run_of-run.result in
    let i : ℕ = c.loop-index.index in
    let those : IsRunOf p.core c.args.place run = subst (λ (q : Progress). IsRunOf q.core c.args.place run) c.self.view_is c.run_of-run.ensures in
    c.in_ok-tell.ensures
    ∙ ap (λ (q : Progress). record q { told = with_reason q.told (reason_at q.core i) }) c.loop-index.invariant
    ∙ ap (λ (t : List PlainReason). record p { told = t })
    (next_passes (is_brought_by c.args.place) p.core p.told i (omega (arith, those.within, c.loop-index-test.true)) (run_within p.core c.args.place run i those c.loop-index.auto.index c.loop-index-test.true))

-- what is reported once the run is
now_told : (old now told : Progress) (place index : ℕ) (run : Run) → now ≡ told → told ≡ record old { told = with_reasons old.told (filter (is_brought_by place) (take index old.core)) } → IsRunOf old.core place run → index ≡ run.end
    → now ≡ record old { told = with_reasons old.told (brought old.core place) }
now_told old now told place index run is loop those ends =
    is ∙ loop ∙ ap (λ (t : List PlainReason). record old { told = t })
    (ap (λ (n : ℕ). with_reasons old.told (filter (is_brought_by place) (take n old.core))) ends ∙ ap (with_reasons old.told) (run_ends old.core place run those))

pub invariant_of-self : goal.invariant_of-self
invariant_of-self c =
    let p : Progress = c.args.self.now in
    let run : Run = c.run_of-run.result in
    let core : List PlainReason = c.self-2.inside.table.now in
    let order : List ℕ = c.self-2.inside.order.items in
    let now : Progress = record { core = core; told = map (reason_at core) order } in
    let those : IsRunOf p.core c.args.place run = subst (λ (q : Progress). IsRunOf q.core c.args.place run) c.self.view_is c.run_of-run.ensures in
    let is : now ≡ record p { told = with_reasons p.told (brought p.core c.args.place) } =
    now_told p now c.loop-index.self c.args.place c.loop-index.index run c.self-2.view_is c.loop-index.invariant those (omega (arith, c.loop-index.auto.index-end, c.loop-index-test.false)) in
    followed_marked core order c.self-2.inside.is_told.items c.self-2.inside.is_followed.items c.self-2.invariant c.args.place run
    (subst (λ (q : Progress). IsRunOf q.core c.args.place run) (sym is) those) c.if-run.false
    (subst (λ (q : Progress). All (λ r. is_new q.told r ≡ false) (brought q.core c.args.place)) (sym is) (all_told p.told (brought p.core c.args.place)))

pub returns : goal.returns
returns c =
    let p : Progress = c.args.self.now in
    let run : Run = c.run_of-run.result in
    let core : List PlainReason = c.self-2.inside.table.now in
    now_told p (record { core = core; told = map (reason_at core) c.self-2.inside.order.items }) c.loop-index.self c.args.place c.loop-index.index run c.self-2.view_is c.loop-index.invariant
    (subst (λ (q : Progress). IsRunOf q.core c.args.place run) c.self.view_is c.run_of-run.ensures) (omega (arith, c.loop-index.auto.index-end, c.loop-index-test.false))
