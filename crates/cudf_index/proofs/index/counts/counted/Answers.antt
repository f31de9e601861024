use Rattle.std.proofs.Common.{◌≡◌, ◌==◌, ◌∷◌, ◌++◌, length, length-append, map, rules, arith, ap, sym, ◌∙◌, subst}
use Rattle.std.proofs.lemmas.List.{append-nil, map_push, nil_from_length}
use Rattle.std.proofs.lemmas.List.Sorted.{answers_always}
use Rattle.cudf_index.specs.Working.Givers.{Gathers, runs}
use Rattle.cudf_index.proofs.RunLemmas.{run_next, runs_taken}
use Rattle.cudf_index.proofs.index.counts.counted.Goals as goal

pub loop-run-preserved : goal.loop-run-preserved
loop-run-preserved c =
    let done = c.loop-run.yielded in
    let run = c.in-Some.run' in
    let rest = c.loop-run.run-iterator.rest.now in
    let after = c.next.new.self.rest.now in
    let steps = c.in-Some.ensures.steps in
    let next : runs rest ≡ run.now ∷ runs after = run_next rest run.now after steps.0 steps.1 (steps.2 (λ g h. g.place == h.place) (answers_always _ _ _ (λ f a r f' k. search rules))).1 in (
      runs_taken (runs c.args.row.now) done run rest after c.loop-run.invariant.0 next,
      subst (λ rs. Gathers rs c.add.new.self) (sym (map_push (λ r. r.now) done run)) (c.in_ok-add.ensures.more (map (λ r. r.now) done) c.loop-run.invariant.1),
      omega (arith, c.loop-run.invariant.2, c.in_ok-add.ensures.unversioned, ap length steps.0, length-append run.now after, steps.1),
    )

pub returns : goal.returns
returns c =
    let none = nil_from_length c.loop-run.run-iterator.rest.now c.in-None.ensures.steps.0 in
    let all = c.loop-run.invariant.0 ∙ ap (λ rest. map (λ r. r.now) c.loop-run.yielded ++ runs rest) none ∙ append-nil (map (λ r. r.now) c.loop-run.yielded) in
    c.counted.ensures (runs c.args.row.now) (subst (λ rs. Gathers rs c.loop-run.gathering) (sym all) c.loop-run.invariant.1)
