-- A run on documents in memory writes their report to a front, or nothing.
use Rattle.std.proofs.Common.{◌≡◌, ◌<◌, ◌++◌, ℕ, List, [], length, min, Result, Ok, Err, IsErr, IsErrAnd, MatchResult, refl, sym, ap, ◌∙◌, subst, arith}
use Rattle.std.specs.List.{AllZip}
use Rattle.std.specs.Io.KnownBytes.{Appends, Keeps}
use Rattle.cudf_check.specs.Naming.{names_of as reader_names}
use Rattle.cudf_check.specs.JobReport.{report}
use Rattle.cudf_check.specs.Runs.{Runs}
use Rattle.cudf_command_line.specs.declared.command.Order.{Order}
use Rattle.cudf_device.specs.Device.{SourceState}
use Rattle.cudf_device.specs.Outcomes.{Report}
use Rattle.cudf_device.specs.Readers.{Change}
use Rattle.cudf_device.specs.declared.outcome.Outcome.{Outcome}
use Rattle.cudf_device.specs.declared.outcome.RunError.{RunError}
use Rattle.cudf_device.specs.declared.outcome.RunError.TheVariants as errors
use Rattle.cudf_calls.specs.Calls.{labels, texts_of}
use Rattle.cudf_calls.specs.Working.Fronts.{front_state, IsUnwritten, IsWritten}
use Rattle.cudf_calls.specs.Working.Rooms.{over}
use Rattle.cudf_calls.specs.declared.NamedBytes.{NamedBytes}
use Rattle.cudf_calls.specs.declared.front.CallerBuffer.{CallerBuffer}
use Rattle.cudf_calls.specs.declared.carried.Stop.{Stop}
use Rattle.cudf_calls.specs.declared.carried.Stop.TheVariants.{Memory}
use Rattle.cudf_calls.proofs.DocumentLemmas.{OfInput, all_whole, are_named}
use Rattle.cudf_calls.proofs.RoomLemmas.{over-none, taken, untaken}

-- ---- fronts

-- a front holds what it had taken, and this text after it
shows : (old new : CallerBuffer) (text : List ℕ) → old.seen.now.report ≡ [] → new.seen.now.before ≡ old.seen.now.before → new.seen.now.report ≡ text
    → (new.length ≡ min (length text) 18446744073709551615) × (new.room.now ≡ over old.room.now text)
shows old new text none before report =
    let was : old.room.now ≡ old.seen.now.before = old.filled.shows ∙ ap (λ r. over old.seen.now.before r) none ∙ over-none old.seen.now.before in (
      new.filled.counts ∙ ap (λ r. min (length r) 18446744073709551615) report,
      new.filled.shows ∙ ap (λ r. over new.seen.now.before r) report ∙ ap (λ b. over b text) (before ∙ sym was),
    )

module _ (old new : CallerBuffer) where
  module _ (text : List ℕ) (grown : Appends (front_state old).contents (front_state new).contents text) where
    pub front_named : new.room.ghost_name ≡ old.room.ghost_name
    front_named = (taken old.room.ghost_name old.seen.now.before old.seen.now.report new.room.ghost_name new.seen.now.before new.seen.now.report text grown).0

    pub front_shows : old.seen.now.report ≡ [] → (new.length ≡ min (length text) 18446744073709551615) × (new.room.now ≡ over old.room.now text)
    front_shows none =
        let parts = taken old.room.ghost_name old.seen.now.before old.seen.now.report new.room.ghost_name new.seen.now.before new.seen.now.report text grown in
        shows old new text none parts.1 (parts.2 ∙ ap (λ r. r ++ text) none)

  module _ (same : Keeps (front_state old).contents (front_state new).contents) where
    pub front_named-same : new.room.ghost_name ≡ old.room.ghost_name
    front_named-same = (untaken old.room.ghost_name old.seen.now.before old.seen.now.report new.room.ghost_name new.seen.now.before new.seen.now.report same).0

    pub front_kept : new.room.now ≡ old.room.now
    front_kept =
        let parts = untaken old.room.ghost_name old.seen.now.before old.seen.now.report new.room.ghost_name new.seen.now.before new.seen.now.report same in
        new.filled.shows ∙ ap (λ b. over b new.seen.now.report) parts.1 ∙ ap (λ r. over old.seen.now.before r) parts.2 ∙ sym old.filled.shows

-- ---- runs

module _ (order : Order) (first : NamedBytes) (others : List NamedBytes) (reader : Change SourceState) (readers : List (Change SourceState)) (old new : CallerBuffer)
    (of_first : OfInput order.names_files first reader) (of_others : AllZip (OfInput order.names_files) others readers) where
  abbrev answer : Report
  answer = report order.job order.mode (labels order.names_files first others) first.text.now (texts_of others)

  module _ (outcome : Outcome) (runs : Runs (report order.job order.mode (reader_names reader readers)) reader readers (front_state old) (front_state new) (Ok outcome)) where
    done : Appends (front_state old).contents (front_state new).contents answer.text × (outcome ≡ answer.outcome)
    done =
        let read = runs.done in
        let texts : read.texts ≡ texts_of others = all_whole order.names_files others readers read.texts of_others read.others_read in
        let text : read.text ≡ first.text.now = of_first.whole read.text read.first_read in
        let names : reader_names reader readers ≡ labels order.names_files first others = are_named order.names_files first reader others readers of_first of_others in
        let same : report order.job order.mode (reader_names reader readers) read.text read.texts ≡ answer = λ k. report order.job order.mode (names k) (text k) (texts k) in
        subst (λ r. Appends (front_state old).contents (front_state new).contents r.text × (outcome ≡ r.outcome)) same read.holds

    pub run_named : new.room.ghost_name ≡ old.room.ghost_name
    run_named = front_named old new answer.text done.0

    pub run_written : old.seen.now.report ≡ [] → IsWritten answer old new outcome
    run_written none = let shown = front_shows old new answer.text done.0 none in record { outcome_is = done.1; length_is = shown.0; shown = shown.1 }

  -- nothing was written: no write failed
  same : (error : RunError) → Runs (report order.job order.mode (reader_names reader readers)) reader readers (front_state old) (front_state new) (Err error)
      → Keeps (front_state old).contents (front_state new).contents
  same errors.Read runs = runs.untouched (λ is. absurd (cc is))
  same errors.TooLong runs = runs.untouched (λ is. absurd (cc is))
  same errors.Write runs = let failed : 0 < 0 = runs.write.0 refl in absurd (omega (arith, failed))
  same errors.Memory runs = runs.untouched (λ is. absurd (cc is))

  pub run_named-ended : (error : RunError) → Runs (report order.job order.mode (reader_names reader readers)) reader readers (front_state old) (front_state new) (Err error)
      → new.room.ghost_name ≡ old.room.ghost_name
  run_named-ended error runs = front_named-same old new (same error runs)

  -- a call ends as its run did
  pub run_ended : (error : RunError) (result : Result Outcome Stop) → Runs (report order.job order.mode (reader_names reader readers)) reader readers (front_state old) (front_state new) (Err error)
      → IsErr result × IsErrAnd result (λ stop. stop ≡ Memory) → MatchResult result (IsWritten answer old new) (IsUnwritten old new)
  run_ended error (Ok outcome) runs is = absurd (cc is.0)
  run_ended error (Err stop) runs is = record { why = is.1; kept = front_kept old new (same error runs) }
