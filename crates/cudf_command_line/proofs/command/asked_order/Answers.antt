use Rattle.std.proofs.Common.{map, string_bytes, ap, sym, ◌∙◌}
use Rattle.clap.specs.Matches.{found_of}
use Rattle.clap.specs.Words.{subcommand_rows_of}
use Rattle.cudf_command_line.specs.Command.{has_list_apart}
use Rattle.cudf_command_line.proofs.MatchLemmas.{asked, by_words}
use Rattle.cudf_command_line.proofs.command.asked_order.Goals as goal

pub returns-in-Some-clause-asks : goal.returns-in-Some-clause-asks
returns-in-Some-clause-asks c =
    by_words (map string_bytes c.args.words.now) (subcommand_rows_of c.args.matches.now) c.order_of.result (ap (λ words. has_list_apart words) (sym c.arguments.ensures) ∙ (sym c.has_list_apart.ensures ∙ c.if-has_list_apart.false))
    (asked _ _ _ (found_of c.in-Some.found.now) _ c.in-Some.ensures.name c.in-Some.ensures.rows c.order_of.ensures.asks)
