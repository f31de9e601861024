use Rattle.std.proofs.Common.{ℕ, List, Option, map, string_bytes, inl, subst}
use Rattle.clap.specs.Words.{Row, app_of}
use Rattle.cudf_command_line.specs.Command.{IsAskedBy, IsRefusedBy}
use Rattle.cudf_command_line.proofs.OrderLemmas.{fits-by-grammar, kind-by-grammar, met, unparsed}
use Rattle.cudf_command_line.proofs.command.parse_command_line.Goals as goal

pub returns-clause-asks : goal.returns-clause-asks
returns-clause-asks c =
    let words : List (List ℕ) = map string_bytes c.args.words.now in
    unparsed words c.in-Err.error c.in_ok-parse_failure-in-Err.field-0 c.in_ok-parse_failure-in-Err.ensures
    (kind-by-grammar words (app_of c.in_ok-program.program) c.in-Err.error c.in_ok-program.ensures.0 c.in-Err.ensures.kinds)

pub returns-in-Ok-asked_order-clause-asks : goal.returns-in-Ok-asked_order-clause-asks
returns-in-Ok-asked_order-clause-asks c =
    let words : List (List ℕ) = map string_bytes c.args.words.now in
    let of_grammar = c.in_ok-program.ensures.0 in
    record {
      fits = fits-by-grammar words (app_of c.in_ok-program.program) of_grammar c.in-Ok.ensures.kinds;
      asks = subst (λ (rows : Option (List ℕ × List Row)). IsAskedBy words rows c.in-Ok-asked_order.order)
          (met words (app_of c.in_ok-program.program) c.in-Ok.matches of_grammar c.in-Ok.ensures.ok.2) c.in-Ok-asked_order.ensures.asks;
    }

pub returns-in-Ok-clause-asks : goal.returns-in-Ok-clause-asks
returns-in-Ok-clause-asks c =
    let words : List (List ℕ) = map string_bytes c.args.words.now in
    let of_grammar = c.in_ok-program.ensures.0 in
    inl (record {
      fits = fits-by-grammar words (app_of c.in_ok-program.program) of_grammar c.in-Ok.ensures.kinds;
      refuses = subst (λ (rows : Option (List ℕ × List Row)). IsRefusedBy words rows c.in-Err-asked_order.refusal)
          (met words (app_of c.in_ok-program.program) c.in-Ok.matches of_grammar c.in-Ok.ensures.ok.2) c.in-Err-asked_order.ensures.asks;
    })
