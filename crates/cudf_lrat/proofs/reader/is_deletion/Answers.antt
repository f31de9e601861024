use Rattle.std.proofs.Common.{◌≡◌, Bor, List, MatchOption, Option, false, ℕ, ap, sym, subst, ◌∙◌}
use Rattle.std.specs.List.{list_any}
use Rattle.cudf_lrat.proofs.CutLemmas.{deletion-ended}
use Rattle.cudf_lrat.specs.Lines.{cut_at_zeros, words_of}
use Rattle.cudf_lrat.specs.Working.Numbers.{HasNoZero, with_piece}
use Rattle.cudf_lrat.specs.declared.reader.SignedNumber.{SignedNumber}
use Rattle.cudf_lrat.proofs.reader.is_deletion.Goals as goal

pub returns : goal.returns
returns c =
    let numbers = c.read_numbers.new.numbers.items in
    let all = cut_at_zeros (words_of c.args.text.now) in
    let first = subst (λ (found : Option (Bor (List ℕ))). MatchOption found (HasNoZero all) (λ rest. all ≡ with_piece numbers (cut_at_zeros (words_of rest.now)))) c.in-Some.is c.in_ok-rest.ensures in
    let plain : list_any (λ n. n.negative) numbers ≡ false = ap (λ (ns : List SignedNumber). list_any (λ n. n.negative) ns) (sym c.deref.ensures.value) ∙ sym c.if-has_negative.ensures in
    deletion-ended numbers (words_of c.args.text.now) (words_of c.in-Some.rest.now) c.has_ended.result first plain c.has_ended.ensures
