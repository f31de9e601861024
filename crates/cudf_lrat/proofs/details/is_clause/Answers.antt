use Rattle.std.proofs.Common.{◌≡◌, Bor, List, MatchOption, Option, ℕ, subst}
use Rattle.cudf_lrat.proofs.CutLemmas.{clause-ended}
use Rattle.cudf_lrat.specs.Lines.{cut_at_zeros, words_of}
use Rattle.cudf_lrat.specs.Working.Numbers.{HasNoZero, with_piece}
use Rattle.cudf_lrat.proofs.details.is_clause.Goals as goal

pub returns-in-Some : goal.returns-in-Some
returns-in-Some c =
    let literals = c.read_numbers.new.numbers.items in
    let all = cut_at_zeros (words_of c.args.line.now) in
    let first = subst (λ (found : Option (Bor (List ℕ))). MatchOption found (HasNoZero all) (λ rest. all ≡ with_piece literals (cut_at_zeros (words_of rest.now)))) c.in-Some.is c.in_ok-rest.ensures in
    clause-ended literals (words_of c.args.line.now) (words_of c.in-Some.rest.now) c.has_ended.result first c.has_ended.ensures
