-- What a parse reads of a command, step by step as it is put together.
use Rattle.std.proofs.Common.{◌≡◌, ◌∙◌, ◌||◌, ◌∷◌, [], ℕ, Bool, Bor, List, Some, ap, ap₂, false, subst, true}
use Rattle.std.specs.List.{AllZip}
use Rattle.cudf_command_line.specs.Grammar.{IsArgument, IsOf, with_rules}
use Rattle.clap.specs.Built.{AddsArg, AddsInTurn, AddsSubcommand}
use Rattle.clap.specs.Simple.{App, app_of_fields, with_rule, with_subcommand}
use Rattle.clap.specs.Walk.{Rule, rule_of}
use Rattle.clap.specs.declared.builder.command.Command.TheViews.{out-Command}
use Rattle.clap.specs.declared.builder.arg.Arg.{Arg}
use Rattle.clap.specs.declared.builder.command.Command.{Command}

pub described : (app : App) (old new : Command) (text : Bor (List ℕ)) → out-Command new ≡ record (out-Command old) { about = Some text } → IsOf app old → IsOf app new
described app old new text is of = (ap app_of_fields is ∙ of.0, ap (λ f. f.has_globals) is ∙ of.1)

pub long_described : (app : App) (old new : Command) (text : Bor (List ℕ)) → out-Command new ≡ record (out-Command old) { long_about = Some text } → IsOf app old → IsOf app new
long_described app old new text is of = (ap app_of_fields is ∙ of.0, ap (λ f. f.has_globals) is ∙ of.1)

pub followed : (app : App) (old new : Command) (text : Bor (List ℕ)) → out-Command new ≡ record (out-Command old) { after_help = Some text } → IsOf app old → IsOf app new
followed app old new text is of = (ap app_of_fields is ∙ of.0, ap (λ f. f.has_globals) is ∙ of.1)

pub versioned : (app : App) (old new : Command) (text : Bor (List ℕ)) → out-Command new ≡ record (out-Command old) { version = Some text } → IsOf app old
    → IsOf (record app { top = record app.top { has_version = true } }) new
versioned app old new text is of =
    (ap app_of_fields is ∙ ap (λ (a : App). record a { top = record a.top { has_version = true } }) of.0, ap (λ f. f.has_globals) is ∙ of.1)

pub required : (app : App) (old new : Command) → out-Command new ≡ record (out-Command old) { subcommand_required = true } → IsOf app old
    → IsOf (record app { top = record app.top { subcommand_required = true } }) new
required app old new is of =
    (ap app_of_fields is ∙ ap (λ (a : App). record a { top = record a.top { subcommand_required = true } }) of.0, ap (λ f. f.has_globals) is ∙ of.1)

with_word : (app : App) (rule : Rule) (old : Command) (word : Arg) → IsOf app old → rule_of word ≡ rule → word.global ≡ false
    → (new : Command) → AddsArg old word new → IsOf (with_rule app rule) new
with_word app rule old word of_app of_rule local new adds =
    (adds.shape local ∙ ap₂ with_rule of_app.0 of_rule, adds.globals ∙ (ap (λ (b : Bool). b || word.global) of_app.1 ∙ ap (λ (b : Bool). false || b) local))

pub with_words : (app : App) (rules : List Rule) (words : List Arg) (old : Command) → AllZip IsArgument words rules → IsOf app old
    → (new : Command) → AddsInTurn AddsArg old words new → IsOf (with_rules app rules) new
with_words app [] [] old are of_app new adds = subst (IsOf app) adds of_app
with_words app [] (word ∷ words) old are of_app new adds = elim are [ ]
with_words app (rule ∷ rules) [] old are of_app new adds = elim are [ ]
with_words app (rule ∷ rules) (word ∷ words) old are of_app new (next, adds, more) =
    with_words (with_rule app rule) rules words next are.1 (with_word app rule old word of_app are.0.0 are.0.1 next adds) new more

pub adds_command : (app sub_app : App) (old sub : Command) → IsOf app old → IsOf sub_app sub
    → (new : Command) → AddsSubcommand old sub new → IsOf (with_subcommand app sub_app.top) new
adds_command app sub_app old sub of_app of_sub new adds =
    (adds.shape of_sub.1 ∙ ap₂ with_subcommand of_app.0 (ap (λ (a : App). a.top) of_sub.0), adds.globals ∙ (ap (λ (b : Bool). b || (out-Command sub).has_globals) of_app.1 ∙ ap (λ (b : Bool). false || b) of_sub.1))
