use Rattle.std.proofs.Common.{◌≡◌, ◌∙◌, ◌-◌, length, map, string_bytes, ap, arith}
use Rattle.std.proofs.lemmas.Grind.{common_steps}
use Rattle.cudf_calls.specs.Calls.{names_of}
use Rattle.cudf_calls.proofs.CallLemmas.{names_all, names_front}
use Rattle.cudf_calls.proofs.document.names_behind.Goals as goal

pub returns-then-not-has_better_than-clause-names : goal.returns-then-not-has_better_than-clause-names
returns-then-not-has_better_than-clause-names c =
    let are : map (λ word. string_bytes word) c.add_names.new.line.items ≡ names_of c.args.documents.now = grind (arith, common_steps) in
    names_all c.args.words.now c.args.documents.now c.add_names.new.line.items are (grind (arith, common_steps))

pub returns-clause-names : goal.returns-clause-names
returns-clause-names c =
    let are : map (λ word. string_bytes word) c.add_names.new.line.items ≡ names_of c.args.documents.now = grind (arith, common_steps) in
    let count : c.saturating_sub.result ≡ length c.add_names.new.line.items - 1 = c.saturating_sub.ensures ∙ ap (λ k. k - 1) (c.len.ensures ∙ c.add_names.new.line.ok.0) in
    ap (map (λ word. string_bytes word)) c.truncate.ensures.items
    ∙ names_front c.args.words.now c.args.documents.now c.add_names.new.line.items are c.saturating_sub.result count (grind (arith, common_steps))
