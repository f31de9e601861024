-- What was written of a report, and what an error on the way leaves.
use Rattle.std.proofs.Common.{◌≡◌, ◌<◌, Result, Ok, Err, IsErr, IsErrAnd, refl, sym, subst}
use Rattle.std.specs.Io.KnownBytes.{Appends}
use Rattle.std.proofs.KnownBytes.{Keeps-refl}
use Rattle.cudf_device.specs.declared.outcome.Outcome.{Outcome}
use Rattle.cudf_device.specs.declared.outcome.RunError.{RunError}
use Rattle.cudf_device.specs.declared.outcome.RunError.TheVariants.{Write, Memory}
use Rattle.cudf_device.specs.Device.{SinkState, failed_writes}
use Rattle.cudf_device.specs.Writers.{AppendsPrefix, StopsWriting}
use Rattle.cudf_device.specs.Outcomes.{Report}
use Rattle.cudf_device.specs.Promises.Answering.{Answers}
use Rattle.cudf_device.proofs.CallLemmas.{none_more, calm_writes}
use Rattle.cudf_device.proofs.CommonLemmas.{none_below}

-- memory ran out before the first byte
pub memory_first : (a : SinkState) (report : Report) → Answers a a report (Err Memory)
memory_first a report = record {
  ok = tt;
  leaves = Keeps-refl a.contents;
  failed = (λ e. absurd (cc e), λ below. absurd (none_below a.failures a.failures refl below));
  calm = tt;
  stops = none_more failed_writes a.failures a.last;
  only = tt;
}

-- a write failed
pub write_failed : (a b : SinkState) (report : Report) → AppendsPrefix a.contents b.contents report.text → a.failures < b.failures
    → StopsWriting (record { before = a; after = b }) → Answers a b report (Err Write)
write_failed a b report prefix below stops = record {
  ok = tt;
  leaves = prefix;
  failed = (λ e. below, λ h. refl);
  calm = tt;
  stops = stops;
  only = tt;
}

-- all was written
pub all_written : (a b : SinkState) (report : Report) (outcome : Outcome) → Appends a.contents b.contents report.text → a.failures ≡ b.failures
    → outcome ≡ report.outcome → Answers a b report (Ok outcome)
all_written a b report outcome written calm answered = record {
  ok = record { written = written; answered = answered };
  leaves = tt;
  failed = (λ e. absurd (cc e), λ below. absurd (none_below a.failures b.failures calm below));
  calm = calm;
  stops = calm_writes a b calm;
  only = tt;
}

-- the error that a `?` hands on
pub handed_on : (a b : SinkState) (report : Report) (e : RunError) (result : Result Outcome RunError)
    → IsErr result × IsErrAnd result (λ x. x ≡ e) → Answers a b report (Err e) → Answers a b report result
handed_on a b report e (Ok outcome) same m = absurd same.1
handed_on a b report e (Err x) same m = subst (λ y. Answers a b report (Err y)) (sym same.1) m
