-- A front as a run sees it, for proofs.
use Rattle.std.specs.Prelude.{◌≡◌, ◌∷◌, ◌++◌, Some, Ok, length, min}
use Rattle.cudf_device.specs.Device.{SinkState}
use Rattle.cudf_device.specs.Outcomes.{Report}
use Rattle.cudf_device.specs.declared.outcome.Outcome.{Outcome}
use Rattle.cudf_calls.specs.Working.Rooms.{over}
use Rattle.cudf_calls.specs.declared.front.CallerBuffer.{CallerBuffer}
use Rattle.cudf_calls.specs.declared.carried.Stop.{Stop}
use Rattle.cudf_calls.specs.declared.carried.Stop.TheVariants.{Memory}

-- what it has taken is the report, after the name of the reference to the buffer and what the buffer held before: so a run changes neither. It never fails
abbrev pub front_state : CallerBuffer → SinkState
front_state f = record {
  contents = Some (f.room.ghost_name ∷ length f.seen.now.before ∷ f.seen.now.before ++ f.seen.now.report);
  failures = 0;
  last = Some (Ok f.last);
}

-- the whole report was written to a front that had nothing of it, and its outcome is this
pub record IsWritten (answer : Report) (old new : CallerBuffer) (outcome : Outcome) : Type 0 where
  pub outcome_is : outcome ≡ answer.outcome
  pub length_is : new.length ≡ min (length answer.text) 18446744073709551615
  pub shown : new.room.now ≡ over old.room.now answer.text

-- memory ran out, and nothing was written
pub record IsUnwritten (old new : CallerBuffer) (stop : Stop) : Type 0 where
  pub why : stop ≡ Memory
  pub kept : new.room.now ≡ old.room.now
