use Rattle.std.proofs.Common.{add-one, map, string_bytes, subst}
use Rattle.std.proofs.lemmas.List.{take_all}
use Rattle.std.proofs.lemmas.Result.{err_from_is_err_and}
use Rattle.std.specs.List.{All}
use Rattle.std.specs.Str.{IsUtf8}
use Rattle.cudf_calls.specs.Calls.{IsNoText}
use Rattle.cudf_calls.proofs.CallLemmas.{refused_so}
use Rattle.cudf_calls.proofs.ElementLemmas.{all_next, one_at, one_more}
use Rattle.cudf_calls.proofs.document.add_words.Goals as goal

pub loop-word-preserved : goal.loop-word-preserved
loop-word-preserved c =
    let words = c.args.words.now in
    let i = c.loop-word.word-index in
    let below = c.loop-word-test.true in
    record {
      line = one_more (λ word. word.bytes.now) words i _ (map (λ word. string_bytes word) c.args.line.now.items) (map (λ word. string_bytes word) c.loop-word.line.items) (map (λ word. string_bytes word) c.add.new.line.items)
          below c.loop-word.invariant.line c.in_ok-add.ensures.line;
      read = rw (add-one i) (all_next IsUtf8 (λ word. word.bytes.now) words i _ below c.loop-word.invariant.read c.in_ok-add.ensures.read);
    }

pub returns-in_err-add-clause-read : goal.returns-in_err-add-clause-read
returns-in_err-add-clause-read c =
    let p = err_from_is_err_and c.from_residual.result c.from_residual.ensures.1 in
    rw (p.1, p.2) (refused_so _ (λ is. one_at IsNoText (λ word. word.bytes.now) c.args.words.now c.loop-word.word-index _ c.loop-word-test.true is) c.in_err-add.ensures.read)

pub returns-clause-read : goal.returns-clause-read
returns-clause-read c = subst (λ words. All IsUtf8 (map (λ word. word.bytes.now) words)) (take_all c.loop-word.word-index c.args.words.now c.loop-word-test.false) c.loop-word.invariant.read
