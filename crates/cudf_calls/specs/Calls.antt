-- What a call of the library leaves. Own.
use Rattle.std.specs.Prelude.{◌≡◌, ◌≢◌, ◌<◌, ◌≤◌, ◌⊎◌, ◌++◌, ℕ, List, [], ◌∷◌, length, map, min, take, drop, nat_eq, ◌-◌, codes, string_bytes, Bool, Option, Some, None, if◌then◌else◌}
use Rattle.std.specs.List.{All, list_any, starts_with}
use Rattle.std.specs.Str.{IsUtf8}
use Rattle.cudf_check.specs.Naming.{Names}
use Rattle.cudf_check.specs.JobReport.{report}
use Rattle.cudf_command_line.specs.Orders.{IsAskedFor, IsUnasked}
use Rattle.cudf_command_line.specs.Usage.{usage_status}
use Rattle.cudf_command_line.specs.declared.command.Order.{Order}
use Rattle.cudf_command_line.specs.declared.usage.UsageError.{UsageError}
use Rattle.cudf_command_line.specs.declared.usage.UsageError.TheVariants.{Told}
use Rattle.cudf_device.specs.Outcomes.{outcome_status, Report}
use Rattle.cudf_device.specs.Readers.{OfOne, most_bytes}
use Rattle.cudf_calls.specs.declared.NamedBytes.{NamedBytes}

-- ---- what is left

-- what a call leaves: the bytes of the caller's buffer before and after it, the length that it tells, and its status
pub record Left : Type 0 where
  pub old : List ℕ
  pub new : List ℕ
  pub told : ℕ
  pub status : ℕ

abbrev pub left : List ℕ → List ℕ → ℕ → ℕ → Left
left old new told status = record { old = old; new = new; told = told; status = status }

-- the whole text's length is reported, or 18446744073709551615 where it is longer; its front is in the buffer, as far as there is room, and what follows it is as before
pub record Shows (text : List ℕ) (call : Left) : Type 0 where
  pub length_is : call.told ≡ min (length text) 18446744073709551615
  pub shown : call.new ≡ take (length call.old) text ++ drop (length text) call.old

-- the report is shown, and its outcome's status answered, which is 5 where a CNF is too large: that report has no text
pub record Tells (answer : Report) (call : Left) : Type 0 where
  pub status_is : call.status ≡ outcome_status answer.outcome
  pub shows : Shows answer.text call

-- some message is shown, and this status answered
pub record Explains (status : ℕ) (call : Left) : Type 0 where
  pub message : List ℕ
  pub status_is : call.status ≡ status
  pub shows : Shows message call

-- there is no text, but this status: no length is reported, and the buffer is as before
pub record BreaksOff (status : ℕ) (call : Left) : Type 0 where
  pub status_is : call.status ≡ status
  pub length_is : call.told ≡ 0
  pub kept : call.new ≡ call.old

-- ---- documents

-- a document is as long as a run reads
abbrev pub IsShort : List ℕ → Type 0
IsShort text = length text ≤ most_bytes

-- it is longer
abbrev pub IsLong : List ℕ → Type 0
IsLong text = most_bytes < length text

-- the report is told, or memory ran out
abbrev pub Reports : Report → Left → Type 0
Reports answer call = Tells answer call ⊎ BreaksOff 6 call

-- 5 where a document is too long; else the report on them
abbrev pub Answers : List (List ℕ) → Report → Left → Type 0
Answers documents answer call = (OfOne IsLong documents × BreaksOff 5 call) ⊎ (All IsShort documents × Reports answer call)

-- their texts and their names
abbrev pub texts_of : List NamedBytes → List (List ℕ)
texts_of documents = map (λ document. document.text.now) documents

abbrev pub names_of : List NamedBytes → List (List ℕ)
names_of documents = map (λ document. document.name.now) documents

-- how lines name a document, where they name files: not at all, if its name is empty
abbrev pub label : Bool → List ℕ → Option (List ℕ)
label names_files [] = None
label names_files (byte ∷ name) = if names_files then Some (byte ∷ name) else None

abbrev pub labels : Bool → NamedBytes → List NamedBytes → Names
labels names_files first others = record { first = label names_files first.name.now; others = map (λ document. label names_files document.name.now) others }

-- ---- words

-- the word names the file of `--better-than`
abbrev pub is_better : List ℕ → Bool
is_better word = starts_with nat_eq word (codes "--better-than=")

-- the names of the documents that stand for files behind the words: of all, or where a word names the file of `--better-than`, for which
-- the last one stands, of all but that
abbrev pub names_behind : List (List ℕ) → List NamedBytes → List (List ℕ)
names_behind words documents = if list_any is_better words then take (length documents - 1) (names_of documents) else names_of documents

-- behind `--` all words are files
abbrev pub behind : List (List ℕ) → List (List ℕ)
behind [] = []
behind (name ∷ names) = codes "--" ∷ name ∷ names

-- the program's command line: its own name, the words, and the names of documents
abbrev pub line_of : List (List ℕ) → List NamedBytes → List (List ℕ)
line_of words documents = codes "cudf_check" ∷ words ++ behind (names_behind words documents)

-- a word isn't UTF-8
abbrev pub IsNoText : List ℕ → Type 0
IsNoText word = IsUtf8 word → ⊥

-- ---- calls

-- what an order does on documents, of which there has to be one for each of its files: else a word names a file, and the status is 4
abbrev pub Does : Order → List NamedBytes → Left → Type 0
Does order [] call = Explains 4 call
Does order (first ∷ others) call =
    ((length others ≢ length order.others.items) × Explains 4 call)
    ⊎ ((length others ≡ length order.others.items)
    × Answers (texts_of (first ∷ others)) (report order.job order.mode (labels order.names_files first others) first.text.now (texts_of others)) call)

-- what is told of words that ask for no order: help and the version; a message with status 4; or that memory ran out
abbrev pub Says : UsageError → Left → Type 0
Says (Told text) call = ((call.status ≡ 0) × Shows (string_bytes text) call)
Says usage call = ((usage_status usage ≡ 4) × Explains 4 call) ⊎ BreaksOff 6 call

-- what is done with the words of a command line
abbrev pub Follows : List (List ℕ) → List NamedBytes → Left → Type 0
Follows line documents call =
    ((order : Order) × IsAskedFor line order × Does order documents call)
    ⊎ ((usage : UsageError) × IsUnasked line usage × Says usage call)

-- what a call does: what its words ask the program for; they are refused where one isn't UTF-8; or memory ran out before
abbrev pub Runs : List (List ℕ) → List NamedBytes → Left → Type 0
Runs words documents call =
    Follows (line_of words documents) documents call
    ⊎ (((OfOne IsNoText words ⊎ OfOne IsNoText (names_of documents)) × Explains 4 call) ⊎ BreaksOff 6 call)
