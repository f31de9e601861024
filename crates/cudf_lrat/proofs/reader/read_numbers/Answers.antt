use Rattle.std.proofs.lemmas.Bool.{eq-eqb}
use Rattle.cudf_lrat.proofs.CutLemmas.{cut-end, cut-zero}
use Rattle.cudf_lrat.specs.Lines.{words_of}
use Rattle.cudf_lrat.proofs.reader.read_numbers.Goals as goal

pub returns-then-number-eq0 : goal.returns-then-number-eq0
returns-then-number-eq0 c =
    cut-zero c.loop-word.numbers.items (words_of c.args.text.now) (words_of c.loop-word.rest.now) c.loop-word.invariant.numbers c.loop-word.invariant.some
    c.in-Some.word.now (words_of c.in-Some.after.now) c.in-Some-read_signed.number c.in-Some.ensures.words c.in-Some-read_signed.ensures (eq-eqb _ _ c.if-number-eq0.true)

pub returns : goal.returns
returns c =
    cut-end c.loop-word.numbers.items (words_of c.args.text.now) (words_of c.loop-word.rest.now) c.loop-word.invariant.numbers c.loop-word.invariant.some c.in_default.ensures.words
