use Rattle.std.proofs.Common.{◌≡◌, ◌+◌, ◌-◌, false, true, [], ◌∷◌, refl, length, set, ap, ◌∙◌, arith}
use Rattle.std.proofs.lemmas.List.{length-replicate}
use Rattle.cudf_lrat.proofs.NeededLemmas.{needed-back, needed-last}
use Rattle.cudf_lrat.specs.Answers.{needs}
use Rattle.cudf_lrat.specs.Lists.{lists_in}
use Rattle.cudf_lrat.specs.Steps.{greatest_number}
use Rattle.cudf_lrat.specs.Working.Indices.{steps_below, steps_in}
use Rattle.cudf_lrat.proofs.steps.mark_backwards.Goals as goal

pub loop-left-init : goal.loop-left-init
loop-left-init c =
    let cnf = c.args.cnf.now in
    let steps = c.args.steps.now in
    let last = greatest_number cnf.clauses (steps_in cnf steps) in
    let count = length cnf.clauses + length steps.numbers.items in
    let size : length c.args.needed.now ≡ count = ap length c.requires.none ∙ length-replicate count false in
    let all : c.len-left.result ≡ length steps.numbers.items = c.len-left.ensures ∙ steps.numbers.ok.0 in
    record {
      within = omega arith;
      needed = (
        last ∷ [],
        needed-last cnf steps count (length c.args.needed.now - 1) _ c.requires.after c.requires.some refl (ap (λ n. n - 1) size) (ap (λ xs. set xs (length c.args.needed.now - 1) true) c.requires.none),
        ap (λ n. needs (steps_below (length cnf.clauses) steps.numbers.items (lists_in steps.clauses) (lists_in steps.used) n) (last ∷ [])) all,
      );
    }

pub loop-left-preserved : goal.loop-left-preserved
loop-left-preserved c =
    let cnf = c.args.cnf.now in
    let steps = c.args.steps.now in
    let m = c.loop-left.invariant.needed in
    let next : c.loop-left.left ≡ c.loop-left.left - 1 + 1 = omega arith in
    record {
      within = omega arith;
      needed = needed-back cnf steps c.loop-left.needed c.mark_used.new.needed m.0 (needs (steps_in cnf steps) (greatest_number cnf.clauses (steps_in cnf steps) ∷ [])) c.loop-left.left (c.loop-left.left - 1) c.requires.after next c.loop-left.invariant.within m.1 m.2 c.mark_used.ensures;
    }
