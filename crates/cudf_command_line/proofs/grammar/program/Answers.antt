use Rattle.std.proofs.Common.{codes}
use Rattle.clap.specs.Simple.{App, new_app, with_subcommand}
use Rattle.cudf_command_line.specs.Grammar.{IsOf, plain_grammar, lint_grammar, check_grammar, score_grammar, rank_grammar, cnf_grammar, refute_grammar}
use Rattle.cudf_command_line.proofs.GrammarLemmas.{described, followed, required, versioned}
use Rattle.cudf_command_line.proofs.grammar.program.Goals as goal

abbrev named : App
named = new_app (codes "cudf_check")

abbrev one : App
one = with_subcommand plain_grammar lint_grammar.top

abbrev two : App
two = with_subcommand one check_grammar.top

abbrev three : App
three = with_subcommand two score_grammar.top

abbrev four : App
four = with_subcommand three rank_grammar.top

abbrev five : App
five = with_subcommand four cnf_grammar.top

pub returns : goal.returns
returns c =
    let short : IsOf named c.about.result = described named c.new.result c.about.result _ c.about.ensures (c.new.ensures.app, c.new.ensures.local) in
    let is_named : IsOf named c.after_help.result = followed named c.about.result c.after_help.result _ c.after_help.ensures short in
    let plain : IsOf plain_grammar c.subcommand_required-program.result =
    required _ c.version.result c.subcommand_required-program.result c.subcommand_required-program.ensures
    (versioned named c.after_help.result c.version.result _ c.version.ensures is_named) in
    let of_one : IsOf one c.in_ok-program.program = c.in_ok-program.ensures plain_grammar lint_grammar plain c.lint_command.ensures in
    let of_two : IsOf two c.in_ok-program-2.program = c.in_ok-program-2.ensures one check_grammar of_one c.check_command.ensures in
    let of_three : IsOf three c.in_ok-program-3.program = c.in_ok-program-3.ensures two score_grammar of_two c.score_command.ensures in
    let of_four : IsOf four c.in_ok-program-4.program = c.in_ok-program-4.ensures three rank_grammar of_three c.rank_command.ensures in
    let of_five : IsOf five c.in_ok-program-5.program = c.in_ok-program-5.ensures four cnf_grammar of_four c.cnf_command.ensures in
    c.with_command-6.ensures five refute_grammar of_five c.refute_command.ensures
