use Rattle.std.proofs.Common.{◌≡◌, ◌<◌, ◌-◌, [], ◌∷◌, ◌++◌, length, map, slice_get, get_or, Some, ap, ◌∙◌, arith}
use Rattle.std.proofs.lemmas.List.{map-append}
use Rattle.cudf_job.specs.KeyViews.{key_view}
use Rattle.cudf_cnf.specs.Cnf.{Keyed}
use Rattle.cudf_reasons.specs.Views.{needed_view}
use Rattle.cudf_check.proofs.EncodingLemmas.{halves, needed-more}
use Rattle.cudf_check.proofs.lines.reasons.needed_of.Goals as goal

pub loop-number-preserved : goal.loop-number-preserved
loop-number-preserved c =
    let clauses = c.args.clauses.now.clauses in
    let numbers = c.args.numbers.now in
    let i = c.loop-number.number-index in
    let below : i < length numbers = omega (arith, c.loop-number-test.true) in
    let one : Keyed = (key_view c.key.result, c.clause.result.now) in
    let at : slice_get clauses (get_or numbers i 0 - 1) ≡ Some one = halves clauses (get_or numbers i 0 - 1) (key_view c.key.result) c.clause.result.now c.key.ensures c.clause.ensures in
    ap (map needed_view) c.in_ok-push.ensures.items ∙ map-append needed_view c.loop-number.found.items _ ∙ ap (λ xs. xs ++ one ∷ []) c.loop-number.invariant
    ∙ needed-more clauses numbers i 0 one below at
