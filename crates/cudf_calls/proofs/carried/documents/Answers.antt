use Rattle.std.proofs.Common.{◌≡◌, ◌+◌, ◌++◌, [], ◌∷◌, take, sym, subst, arith}
use Rattle.std.proofs.lemmas.Grind.{common_steps}
use Rattle.std.proofs.lemmas.List.{take_all}
use Rattle.std.specs.List.{AllZip}
use Rattle.std.specs.Str.{IsUtf8}
use Rattle.cudf_command_line.proofs.FileLemmas.{next_taken}
use Rattle.cudf_calls.specs.Working.Documents.{IsNew}
use Rattle.cudf_calls.proofs.ElementLemmas.{all_at}
use Rattle.cudf_calls.proofs.carried.documents.Goals as goal

pub loop-input-preserved : goal.loop-input-preserved
loop-input-preserved c = λ texts.
    let inputs = c.args.inputs.now in
    let i = c.loop-input.input-index in
    let below = c.loop-input-test.true in
    let pushed : c.push.new.self.items ≡ c.loop-input.documents.items ++ c.document.result ∷ [] = grind (arith, common_steps) in
    subst (λ documents. AllZip (IsNew c.args.names_files) (take (i + 1) inputs) documents) (sym pushed)
    (next_taken (IsNew c.args.names_files) inputs i _ c.loop-input.documents.items c.document.result below (c.loop-input.invariant texts)
    (c.document.ensures (all_at IsUtf8 (λ input. input.name.now) inputs i _ below texts)))

pub returns : goal.returns
returns c = λ texts.
    subst (λ inputs. AllZip (IsNew c.args.names_files) inputs c.loop-input.documents.items) (take_all c.loop-input.input-index c.args.inputs.now c.loop-input-test.false) (c.loop-input.invariant texts)
