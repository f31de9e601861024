-- What a parse by the grammar says of the words.
use Rattle.std.proofs.Common.{◌≡◌, ◌∙◌, ℕ, [], List, ap, subst, sym, inl, inr, refl, true}
use Rattle.clap.specs.Faults.{fault_of, is_simple_and_free}
use Rattle.clap.specs.Kinds.{HasKind}
use Rattle.clap.specs.Simple.{App, HasMatchesOf, is_simple, subcommand_of, subcommand_rows_of}
use Rattle.clap.specs.Values.{kind_of}
use Rattle.clap.specs.declared.error.Error.{Error}
use Rattle.clap.specs.declared.parser.matches.ArgMatches.{ArgMatches}
use Rattle.clap.proofs.OnLiterals.{clap_on_literals}
use Rattle.cudf_command_line.specs.Grammar.{grammar}
use Rattle.cudf_command_line.specs.Command.{refusal_status}
use Rattle.cudf_command_line.specs.Orders.{HasFault, IsUnasked, IsUnparsed}
use Rattle.cudf_command_line.specs.Usage.{kind_status}
use Rattle.cudf_command_line.specs.declared.usage.UsageError.{UsageError}
use Rattle.cudf_command_line.specs.declared.usage.UsageError.TheVariants.{Told, Mistake, Refused, Memory}

is-simple : is_simple grammar ≡ true
unfolding clap_on_literals
is-simple = refl

is-free : is_simple_and_free grammar ≡ true
unfolding clap_on_literals
is-free = refl

-- a kind of fault is one of the grammar
pub kind-by-grammar : (words : List (List ℕ)) (app : App) (e : Error) → app ≡ grammar
    → (is_simple_and_free app ≡ true → HasKind (fault_of app words) e) → HasKind (fault_of grammar words) e
kind-by-grammar words app e is h = subst (λ (a : App). HasKind (fault_of a words) e) is (h (ap is_simple_and_free is ∙ is-free))

-- words without fault are without fault by the grammar
pub fits-by-grammar : (words : List (List ℕ)) (app : App) → app ≡ grammar
    → (is_simple_and_free app ≡ true → fault_of app words ≡ []) → fault_of grammar words ≡ []
fits-by-grammar words app is h = subst (λ (a : App). fault_of a words ≡ []) is (h (ap is_simple_and_free is ∙ is-free))

-- the command that was met is that of the grammar
pub met : (words : List (List ℕ)) (app : App) (m : ArgMatches) → app ≡ grammar → HasMatchesOf app words m
    → subcommand_rows_of m ≡ subcommand_of grammar words
met words app m is h = (h (ap is_simple is ∙ is-simple)).1 ∙ ap (λ (a : App). subcommand_of a words) is

-- the kind of a fault that isn't want of memory, with its status
of_kind : (words : List (List ℕ)) (e : Error) (status : ℕ) → status ≡ kind_status (kind_of e) → (status ≡ 6 → ⊥)
    → HasKind (fault_of grammar words) e → HasFault words status
of_kind words e status is other (inl memory) = absurd (other (is ∙ ap kind_status memory))
of_kind words e status is other (inr among) = (kind_of e, among, is)

-- words in which the parse found a fault ask for no run
pub unparsed : (words : List (List ℕ)) (e : Error) (usage : UsageError) → IsUnparsed words (kind_of e) usage
    → HasKind (fault_of grammar words) e → IsUnasked words usage
unparsed words e (Told text) h kind = of_kind words e 0 h.status_is (λ is. cc) kind
unparsed words e (Mistake topic text) h kind = (of_kind words e 4 h.status_is (λ is. cc) kind, h.told_apart)
unparsed words e (Refused topic refusal) h kind =
    inr (of_kind words e 4 (sym (ap refusal_status h.told_apart.0) ∙ h.status_is) (λ is. cc) kind, h.told_apart.0, h.told_apart.1)
unparsed words e Memory h kind = tt
