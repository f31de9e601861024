-- A run: how it ends where its reading does, and where that went well.
use Rattle.std.proofs.Common.{◌≡◌, ◌↔◌, ◌⊎◌, inl, inr, ℕ, List, Result, Ok, Err, IsErr, IsErrAnd, IsErrOf, refl, sym, ap, ◌∙◌}
use Rattle.std.specs.List.{AllZip}
use Rattle.std.proofs.KnownBytes.{Keeps-refl}
use Rattle.cudf_device.specs.declared.outcome.Outcome.{Outcome}
use Rattle.cudf_device.specs.declared.outcome.RunError.{RunError}
use Rattle.cudf_device.specs.declared.outcome.RunError.TheVariants.{Read, TooLong, Write, Memory}
use Rattle.cudf_device.specs.Device.{SourceState, SinkState}
use Rattle.cudf_device.specs.Readers.{Change, ReadsAll, IsUnfinished, IsTooLong, StopsInTime, OfOne}
use Rattle.cudf_device.specs.Outcomes.{Report}
use Rattle.cudf_check.specs.Runs.{HasRead, Runs}
use Rattle.cudf_device.specs.Promises.Answering.{Answers}
use Rattle.cudf_device.proofs.CommonLemmas.{none_below, same_error}
use Rattle.cudf_device.proofs.InputsLemmas.{WasRead}

-- the reading of the first input ended in an error, and so did the run
pub first_stopped : {T : Type 0} (answer : List ℕ → List (List ℕ) → Report) (first : Change SourceState) (others : List (Change SourceState)) (out : SinkState)
    (reading : Result T RunError) (e : RunError) (result : Result Outcome RunError) → (OfOne IsTooLong others → ⊥) → (OfOne IsUnfinished others → ⊥) → reading ≡ Err e
    → (IsErrOf reading TooLong ↔ IsTooLong first) → (IsErrOf reading Read ↔ IsUnfinished first) → (reading ≡ Err Write → ⊥)
    → IsErr result × IsErrAnd result (λ y. y ≡ e) → Runs answer first others out out result
first_stopped answer first others out reading e (Ok outcome) none_long none_unfinished is too_long unfinished no_write same = absurd same.1
first_stopped answer first others out reading e (Err y) none_long none_unfinished is too_long unfinished no_write same =
    let error : y ≡ e = same.1 in
    record {
      done = tt;
      cut_short = λ h. absurd (no_write (is ∙ ap Err (sym error ∙ same_error h)));
      untouched = λ other. Keeps-refl out.contents;
      read = (λ h. inl (unfinished.0 (is ∙ ap Err (sym error ∙ same_error h))), read_back error);
      too_long = (λ h. inl (too_long.0 (is ∙ ap Err (sym error ∙ same_error h))), long_back error);
      write = (λ h. absurd (no_write (is ∙ ap Err (sym error ∙ same_error h))), λ below. absurd (none_below out.failures out.failures refl below));
    }
  where
    read_back : y ≡ e → IsUnfinished first ⊎ OfOne IsUnfinished others → IsErrOf {T = Outcome} (Err y) Read
    read_back error (inl h) = ap Err (error ∙ same_error (sym is ∙ unfinished.1 h))
    read_back error (inr h) = absurd (none_unfinished h)

    long_back : y ≡ e → IsTooLong first ⊎ OfOne IsTooLong others → IsErrOf {T = Outcome} (Err y) TooLong
    long_back error (inl h) = ap Err (error ∙ same_error (sym is ∙ too_long.1 h))
    long_back error (inr h) = absurd (none_long h)

-- readers that were read to their ends, none of them with an error
pub record WereRead (others : List (Change SourceState)) (texts : List (List ℕ)) : Type 0 where
  pub all : AllZip ReadsAll others texts
  pub finished : OfOne IsUnfinished others → ⊥
  pub short : OfOne IsTooLong others → ⊥

-- all was read, and answered
module _ (answer : List ℕ → List (List ℕ) → Report) (first : Change SourceState) (text : List ℕ) (others : List (Change SourceState)) (texts : List (List ℕ))
    (was : WasRead first text) (were : WereRead others texts) where
  none_unfinished : IsUnfinished first ⊎ OfOne IsUnfinished others → ⊥
  none_unfinished (inl h) = was.finished h
  none_unfinished (inr h) = were.finished h

  none_too_long : IsTooLong first ⊎ OfOne IsTooLong others → ⊥
  none_too_long (inl h) = was.short h
  none_too_long (inr h) = were.short h

  all_read : (P : List ℕ → List (List ℕ) → Type 0) → P text texts → HasRead first others P
  all_read P holds = record { text = text; texts = texts; first_read = was.all; others_read = were.all; holds = holds }

  pub all_answered : (before after : SinkState) (result : Result Outcome RunError) → Answers before after (answer text texts) result
      → Runs answer first others before after result
  all_answered before after (Ok outcome) m = record {
    done = all_read _ (m.ok.written, m.ok.answered);
    cut_short = λ h. absurd (cc h);
    untouched = tt;
    read = (λ h. absurd (cc h), λ h. absurd (none_unfinished h));
    too_long = (λ h. absurd (cc h), λ h. absurd (none_too_long h));
    write = m.failed;
  }
  all_answered before after (Err Read) m = absurd m.only
  all_answered before after (Err TooLong) m = absurd m.only
  all_answered before after (Err Write) m = record {
    done = tt;
    cut_short = λ h. all_read _ m.leaves;
    untouched = λ other. absurd (other refl);
    read = (λ h. absurd (cc h), λ h. absurd (none_unfinished h));
    too_long = (λ h. absurd (cc h), λ h. absurd (none_too_long h));
    write = m.failed;
  }
  all_answered before after (Err Memory) m = record {
    done = tt;
    cut_short = λ h. absurd (cc h);
    untouched = λ other. m.leaves;
    read = (λ h. absurd (cc h), λ h. absurd (none_unfinished h));
    too_long = (λ h. absurd (cc h), λ h. absurd (none_too_long h));
    write = m.failed;
  }

-- a reading that ended well
pub was_read : {T : Type 0} (reader : Change SourceState) (bytes : List ℕ) (v : T) → ReadsAll reader bytes
    → (IsErrOf {T = T} {E = RunError} (Ok v) TooLong ↔ IsTooLong reader) → (IsErrOf {T = T} {E = RunError} (Ok v) Read ↔ IsUnfinished reader) → StopsInTime reader → WasRead reader bytes
was_read reader bytes v all too_long unfinished calls = record {
  all = all;
  finished = λ h. absurd (cc (unfinished.1 h));
  short = λ h. absurd (cc (too_long.1 h));
  calls = calls;
}
