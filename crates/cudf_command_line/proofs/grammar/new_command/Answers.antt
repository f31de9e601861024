use Rattle.std.proofs.lemmas.Result.{IfOk-weaker}
use Rattle.clap.specs.Simple.{App, new_app}
use Rattle.cudf_command_line.specs.Grammar.{IsOf}
use Rattle.cudf_command_line.proofs.GrammarLemmas.{described, followed, long_described, with_words}
use Rattle.cudf_command_line.proofs.grammar.new_command.Goals as goal

pub returns : goal.returns
returns c = λ rules are.
    let app : App = new_app c.args.name.now in
    let short : IsOf app c.about.result = described app c.new.result c.about.result _ c.about.ensures (c.new.ensures.app, c.new.ensures.local) in
    let long : IsOf app c.long_about.result = long_described app c.about.result c.long_about.result _ c.long_about.ensures short in
    let plain : IsOf app c.after_help.result = followed app c.long_about.result c.after_help.result _ c.after_help.ensures long in
    IfOk-weaker c.args-2.result _ _ (with_words app rules c.args.arguments.items c.after_help.result are plain) c.args-2.ensures
