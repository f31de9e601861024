use Rattle.std.proofs.Common.{add-one, subst}
use Rattle.std.proofs.lemmas.List.{take_all}
use Rattle.std.specs.List.{All}
use Rattle.cudf_calls.specs.Calls.{IsLong, IsShort, texts_of}
use Rattle.cudf_calls.proofs.ElementLemmas.{all_next, one_at}
use Rattle.cudf_calls.proofs.document.are_short.Goals as goal

pub returns-then-not-is_short : goal.returns-then-not-is_short
returns-then-not-is_short c = one_at IsLong (λ input. input.text.now) c.args.documents.now c.loop-document.document-index _ c.loop-document-test.true c.if-not-is_short.ensures

pub loop-document-preserved : goal.loop-document-preserved
loop-document-preserved c =
    rw (add-one c.loop-document.document-index)
    (all_next IsShort (λ input. input.text.now) c.args.documents.now c.loop-document.document-index _ c.loop-document-test.true c.loop-document.invariant c.if-not-is_short.ensures)

pub returns : goal.returns
returns c =
    subst (λ documents. All IsShort (texts_of documents)) (take_all c.loop-document.document-index c.args.documents.now c.loop-document-test.false) c.loop-document.invariant
