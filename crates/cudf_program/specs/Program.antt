-- What the program prints on standard output, and its exit status.
use Rattle.std.specs.Prelude.{◌≡◌, ◌≢◌, ◌<◌, ◌≤◌, ◌⊎◌, ◌↔◌, ℕ, List, [], ◌∷◌, length, map, false, Option, Some, None, Result, Ok, Err, IfOk, IfErr, IsErrOf}
use Rattle.std.specs.List.{AllZip}
use Rattle.std.specs.Io.KnownBytes.{Appends, Keeps}
use Rattle.std.specs.IoError.{error_kind}
use Rattle.std.specs.declared.io.Error.{Error}
use Rattle.std.specs.declared.io.ErrorKind.TheVariants.{OutOfMemory}
use Rattle.cudf_problem.specs.declared.problem.Mode.{Mode}
use Rattle.cudf_device.specs.Device.{SinkState}
use Rattle.cudf_device.specs.Promises.NamedInside.{name_of}
use Rattle.cudf_check.specs.Naming.{Names}
use Rattle.cudf_device.specs.Readers.{Change, most_bytes}
use Rattle.cudf_device.specs.Writers.{AppendsPrefix}
use Rattle.cudf_check.specs.JobReport.{report}
use Rattle.cudf_device.specs.Outcomes.{Report}
use Rattle.cudf_device.specs.declared.outcome.Outcome.{Outcome}
use Rattle.cudf_device.specs.declared.outcome.RunError.{RunError}
use Rattle.cudf_device.specs.declared.outcome.RunError.TheVariants.{Write}
use Rattle.cudf_program.specs.Failure.{IsStatusOf, Prints, answer_status, failure_status, words_failure}
use Rattle.cudf_program.specs.Inputs.{IsHeldBy, IsOfFiles, Opens, ReaderOf, label}
use Rattle.cudf_job.specs.declared.job.Job.{Job}
use Rattle.cudf_command_line.specs.Command.{takes_standard}
use Rattle.cudf_command_line.specs.Orders.{IsAskedFor, IsUnasked}
use Rattle.cudf_program.specs.declared.Task.{Task}
use Rattle.cudf_command_line.specs.declared.command.Order.{Order}
use Rattle.cudf_command_line.specs.declared.usage.UsageError.{UsageError}
use Rattle.cudf_program.specs.declared.failure.Failure.{Failure}
use Rattle.cudf_program.specs.declared.failure.Failure.TheVariants as reason

-- ---- what is done

-- none of the texts has more bytes than an input may have
abbrev pub AreShort : List (List ℕ) → Type 0
AreShort [] = Unit {0}
AreShort (text ∷ texts) = (length text ≤ most_bytes) × AreShort texts

-- these are the bytes, where they are known
abbrev pub IsKnownAs : Option (List ℕ) → List ℕ → Type 0
IsKnownAs None bytes = Unit {0}
IsKnownAs (Some known) bytes = bytes ≡ known

-- how lines name the files of an order
abbrev pub labels : Order → Names
labels order = record { first = label order.names_files order.problem; others = map (label order.names_files) order.others.items }

-- this holds of the report of inputs of these names, of which this is known; none is longer than an input may be
pub record HoldsOfKnown (job : Job) (mode : Mode) (names : Names) (problem : Option (List ℕ)) (known : List (Option (List ℕ))) (P : Report → Type 0) : Type 0 where
  pub first : List ℕ
  pub others : List (List ℕ)
  pub first_is : IsKnownAs problem first
  pub others_are : AllZip IsKnownAs known others
  pub short : AreShort (first ∷ others)
  pub holds : P (report job mode names first others)

-- what a job on such inputs did to the output, and its answer
pub record Did (job : Job) (mode : Mode) (names : Names) (problem : Option (List ℕ)) (others : List (Option (List ℕ))) (out : Change SinkState) (answer : Result Outcome RunError) : Type 0 where
  -- an outcome: the whole report was printed, and the outcome is the report's
  pub done : IfOk answer (λ outcome. HoldsOfKnown job mode names problem others (λ r. Appends out.before.contents out.after.contents r.text × (outcome ≡ r.outcome)))
  -- `Write`: a prefix of the report was printed
  pub cut_short : IsErrOf answer Write → HoldsOfKnown job mode names problem others (λ r. AppendsPrefix out.before.contents out.after.contents r.text)
  -- any other error: nothing was printed
  pub untouched : IfErr answer (λ e. e ≢ Write → Keeps out.before.contents out.after.contents)
  -- `Write` exactly where a write failed
  pub write : IsErrOf answer Write ↔ (out.before.failures < out.after.failures)

-- the names of a task's readers
abbrev pub names_in : {F S : Type 0} → Task F S → Names
names_in task = record { first = name_of task.problem; others = map name_of task.others.items }

-- what a task did, and the status that comes of its answer
pub record Finishes {F S : Type 0} (left : ReaderOf F S → Option (List ℕ)) (task : Task F S) (out : Change SinkState) (status : ℕ) : Type 0 where
  pub answer : Result Outcome RunError
  pub did : Did task.order.job task.order.mode (names_in task) (left task.problem) (map left task.others.items) out answer
  pub status_is : status ≡ answer_status answer

-- ---- the program

-- no run was begun, for a failure of which this holds, and the status says why: something is printed only where help or
-- the version was asked for, of which a prefix is printed, and with status 0 the whole
pub record Fails (P : Failure → Type 0) (out : Change SinkState) (status : ℕ) : Type 0 where
  pub failure : Failure
  pub comes_of : P failure
  pub status_is : IsStatusOf failure out.before out.after status
  pub printed : Prints failure out.before out.after status
  pub untouched : failure_status failure ≢ 0 → Keeps out.before.contents out.after.contents

-- the order was carried out on its files, of which as much is known as is said of them by name
pub record IsDone (opens : Opens) (standard : Option (Option (List ℕ))) (order : Order) (out : Change SinkState) (status : ℕ) : Type 0 where
  pub problem : Option (List ℕ)
  pub others : List (Option (List ℕ))
  pub problem_is : IsHeldBy opens standard order.problem problem
  pub others_are : AllZip (IsHeldBy opens standard) order.others.items others
  pub answer : Result Outcome RunError
  pub did : Did order.job order.mode (labels order) problem others out answer
  pub status_is : status ≡ answer_status answer

-- it was carried out, or its files can't be opened
abbrev pub IsTried : Opens → Option (Option (List ℕ)) → Order → Change SinkState → ℕ → Type 0
IsTried opens standard order out status = IsDone opens standard order out status ⊎ Fails (IsOfFiles opens order) out status

-- the words ask for an order, which is tried; nothing is read of standard input unless a file of it is named `-`
pub record Obeys (words : List (List ℕ)) (opens : Opens) (standard : Change (Option (List ℕ))) (out : Change SinkState) (status : ℕ) : Type 0 where
  pub order : Order
  pub asked : IsAskedFor words order
  pub unread : takes_standard order ≡ false → Keeps standard.before standard.after
  pub tried : IsTried opens (Some standard.before) order out status

-- there is no order, for such a failure, and nothing is read of standard input
pub record Declines (P : Failure → Type 0) (standard : Change (Option (List ℕ))) (out : Change SinkState) (status : ℕ) : Type 0 where
  pub unread : Keeps standard.before standard.after
  pub fails : Fails P out status

-- the words ask for no order
abbrev pub IsOfWords : List (List ℕ) → Failure → Type 0
IsOfWords words failure = (usage : UsageError) × (failure ≡ reason.Usage usage) × IsUnasked words usage

-- what is done with these words
abbrev pub Follows : List (List ℕ) → Opens → Change (Option (List ℕ)) → Change SinkState → ℕ → Type 0
Follows words opens standard out status = Obeys words opens standard out status ⊎ Declines (IsOfWords words) standard out status

-- the words can't be had, for this error, and that is reported
abbrev pub IsOfError : Error → Failure → Type 0
IsOfError error failure = failure ≡ words_failure (error_kind error) error

-- what the program does: where the system says these words, what they ask for, with files as the system opens them and
-- with what standard input holds; where it says none, or memory runs out, it says so
abbrev pub Responds : (Result (List (List ℕ)) Error → Type 0) → Opens → Change (Option (List ℕ)) → Change SinkState → ℕ → Type 0
Responds says opens standard out status =
    ((words : List (List ℕ)) × says (Ok words) × Follows words opens standard out status)
    ⊎ ((error : Error) × (says (Err error) ⊎ (error_kind error ≡ OutOfMemory)) × Declines (IsOfError error) standard out status)
