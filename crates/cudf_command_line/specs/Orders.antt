-- What the words of the command line ask for. The first of them is the program's name.
use Rattle.std.specs.Prelude.{◌≡◌, ◌⊎◌, ℕ, [], List, true, false}
use Rattle.clap.specs.Faults.{fault_of}
use Rattle.clap.specs.Kinds.{IsAmong}
use Rattle.clap.specs.Simple.{subcommand_of}
use Rattle.clap.specs.declared.error.kind.ErrorKind.{ErrorKind}
use Rattle.cudf_command_line.specs.Command.{IsAskedBy, IsRefusedBy, arguments, takes_list_apart}
use Rattle.cudf_command_line.specs.Grammar.{grammar}
use Rattle.cudf_command_line.specs.Usage.{kind_status, usage_status}
use Rattle.cudf_command_line.specs.declared.command.Order.{Order}
use Rattle.cudf_command_line.specs.declared.usage.Refusal.{Refusal}
use Rattle.cudf_command_line.specs.declared.usage.Refusal.TheVariants.{Apart}
use Rattle.cudf_command_line.specs.declared.usage.UsageError.{UsageError}
use Rattle.cudf_command_line.specs.declared.usage.UsageError.TheVariants.{Told, Mistake, Refused, Memory}

-- the words are of the grammar, and the command that they name asks for this
pub record IsAskedFor (words : List (List ℕ)) (order : Order) : Type 0 where
  pub fits : fault_of grammar words ≡ []
  pub asks : IsAskedBy words (subcommand_of grammar words) order

-- the words are of the grammar, and what they ask for is refused so
pub record IsRefused (words : List (List ℕ)) (refusal : Refusal) : Type 0 where
  pub fits : fault_of grammar words ≡ []
  pub refuses : IsRefusedBy words (subcommand_of grammar words) refusal

-- a fault of the words against the grammar has this status; help and the version are among these
abbrev pub HasFault : List (List ℕ) → ℕ → Type 0
HasFault words status = (kind : ErrorKind) × IsAmong kind (fault_of grammar words) × (status ≡ kind_status kind)

-- why the words ask for nothing that is done: help or the version is asked for; the words have another fault, and their command doesn't
-- take a list that is separate; what they ask for is refused, or a list is separate in words with a fault; memory ran out
abbrev pub IsUnasked : List (List ℕ) → UsageError → Type 0
IsUnasked words (Told text) = HasFault words 0
IsUnasked words (Mistake topic text) = HasFault words 4 × (takes_list_apart (arguments words) ≡ false)
IsUnasked words (Refused topic refusal) = IsRefused words refusal ⊎ (HasFault words 4 × (refusal ≡ Apart) × (takes_list_apart (arguments words) ≡ true))
IsUnasked words Memory = Unit {0}

-- that a list is separate is reported where the command of the arguments takes one, and of no other fault
abbrev pub TellsApart : List (List ℕ) → UsageError → Type 0
TellsApart words (Told text) = Unit {0}
TellsApart words (Mistake topic text) = takes_list_apart words ≡ false
TellsApart words (Refused topic refusal) = (refusal ≡ Apart) × (takes_list_apart words ≡ true)
TellsApart words Memory = Unit {0}

-- what is reported of words in which a parse found a fault of this kind
pub record IsUnparsed (words : List (List ℕ)) (kind : ErrorKind) (usage : UsageError) : Type 0 where
  pub status_is : usage_status usage ≡ kind_status kind
  pub told_apart : TellsApart (arguments words) usage
