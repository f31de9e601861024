use Rattle.std.proofs.Common.{option_map, map, sym, ◌∙◌, arith}
use Rattle.std.proofs.lemmas.Grind.{common_steps}
use Rattle.clap.specs.Matches.{found_of}
use Rattle.cudf_command_line.specs.Command.{words_of}
use Rattle.cudf_command_line.proofs.FileLemmas.{given_twice}
use Rattle.cudf_command_line.proofs.command.Order.new.Goals as goal

pub returns-then-takes_standard_twice : goal.returns-then-takes_standard_twice
returns-then-takes_standard_twice c =
    given_twice (words_of (found_of c.args.found.now)) (option_map (λ ws. map (λ w. w.now) ws.now) c.args.others) (option_map (λ w. w.now) c.args.better_than)
    c.in_ok-problem.problem.now c.file_name.result c.in_ok-other_files.field-0.items
    (grind (arith, common_steps)) c.file_name.ensures c.in_ok-other_files.ensures (sym c.takes_standard_twice.ensures ∙ c.if-takes_standard_twice.true)
