use Rattle.std.proofs.Common.{◌≡◌, Bor, List, MatchOption, Option, ℕ, sym, subst}
use Rattle.cudf_lrat.proofs.CutLemmas.{step-goes_on}
use Rattle.cudf_lrat.specs.Lines.{cut_at_zeros, words_of}
use Rattle.cudf_lrat.specs.Working.Numbers.{HasNoZero, with_piece}
use Rattle.cudf_lrat.specs.declared.reader.SignedNumber.{SignedNumber}
use Rattle.cudf_lrat.proofs.reader.read_step.Goals as goal

abbrev Reads : List ℕ → List SignedNumber → Option (Bor (List ℕ)) → Type 0
Reads text numbers found = MatchOption found (HasNoZero (cut_at_zeros (words_of text))) (λ rest. cut_at_zeros (words_of text) ≡ with_piece numbers (cut_at_zeros (words_of rest.now)))

pub returns-else-has_ended : goal.returns-else-has_ended
returns-else-has_ended c =
    let literals = c.read_numbers.new.numbers.items in
    let hints = c.read_numbers-2.new.numbers.items in
    let first = subst (Reads c.args.text.now literals) c.in-Some.is c.in_ok-rest.ensures in
    let second = subst (Reads c.in-Some.rest.now hints) c.in-Some-2.is c.in_ok-rest-2.ensures in
    sym (step-goes_on c.args.number literals hints (words_of c.args.text.now) (words_of c.in-Some.rest.now) (words_of c.in-Some-2.rest.now) first second (sym c.if-has_ended.ensures))
