use Rattle.std.proofs.Common.{add-one, map, string_bytes, subst}
use Rattle.std.proofs.lemmas.List.{take_all}
use Rattle.std.proofs.lemmas.Result.{err_from_is_err_and}
use Rattle.std.specs.List.{All}
use Rattle.std.specs.Str.{IsUtf8}
use Rattle.cudf_calls.specs.Calls.{IsNoText, names_of}
use Rattle.cudf_calls.proofs.CallLemmas.{refused_so}
use Rattle.cudf_calls.proofs.ElementLemmas.{all_next, one_at, one_more}
use Rattle.cudf_calls.proofs.document.add_names.Goals as goal

pub loop-document-preserved : goal.loop-document-preserved
loop-document-preserved c =
    let documents = c.args.documents.now in
    let i = c.loop-document.document-index in
    let below = c.loop-document-test.true in
    record {
      line = one_more (λ document. document.name.now) documents i _ (map (λ word. string_bytes word) c.args.line.now.items) (map (λ word. string_bytes word) c.loop-document.line.items) (map (λ word. string_bytes word) c.add.new.line.items)
          below c.loop-document.invariant.line c.in_ok-add.ensures.line;
      read = rw (add-one i) (all_next IsUtf8 (λ document. document.name.now) documents i _ below c.loop-document.invariant.read c.in_ok-add.ensures.read);
    }

pub returns-in_err-add-clause-read : goal.returns-in_err-add-clause-read
returns-in_err-add-clause-read c =
    let p = err_from_is_err_and c.from_residual.result c.from_residual.ensures.1 in
    rw (p.1, p.2) (refused_so _ (λ is. one_at IsNoText (λ document. document.name.now) c.args.documents.now c.loop-document.document-index _ c.loop-document-test.true is) c.in_err-add.ensures.read)

pub returns-clause-read : goal.returns-clause-read
returns-clause-read c = subst (λ documents. All IsUtf8 (names_of documents)) (take_all c.loop-document.document-index c.args.documents.now c.loop-document-test.false) c.loop-document.invariant.read
