-- What was printed on a paper, and how much of it was written: what a paper is made of.
use Rattle.std.specs.Prelude.{◌≡◌, ◌<◌, ℕ, Bool, true, false, List, [], ◌++◌, Result, IfOk, OnOk, OnErr}
use Rattle.std.specs.Borrow.{MutBor}
use Rattle.std.specs.Io.KnownBytes.{Appends}
use Rattle.cudf_device.specs.Device.{SinkState}
use Rattle.cudf_device.specs.Outcomes.{Report}
use Rattle.cudf_device.specs.Writers.{AppendsPrefix, StopsWriting}
use Rattle.cudf_device.specs.declared.outcome.Outcome.{Outcome}
use Rattle.cudf_device.specs.declared.paper.Paper.{Paper}

-- the paper writes to the sink that was lent to it
abbrev pub WritesTo : {W : Type 0} → Paper W → MutBor W → Type 0
WritesTo paper sink = paper.out.ghost_name ≡ sink.ghost_name

-- a write of what was printed on it failed
abbrev pub has_failed : {W : Type 0} → Paper W → Bool
has_failed paper = paper.has_failed

-- the sink has taken all of the text but what waits
pub record IsTaken (old new : SinkState) (waits text : List ℕ) : Type 0 where
  pub taken : List ℕ
  pub whole : taken ++ waits ≡ text
  pub appended : Appends old.contents new.contents taken
  pub calm : old.failures ≡ new.failures

-- a write failed, the last one, and the sink has taken a prefix of the text
pub record IsTorn (old new : SinkState) (text : List ℕ) : Type 0 where
  pub prefix : AppendsPrefix old.contents new.contents text
  pub failed : old.failures < new.failures
  pub stops : StopsWriting (record { before = old; after = new })

-- this text was printed since the sink was in the old state
abbrev pub IsSaid : Bool → SinkState → SinkState → List ℕ → List ℕ → Type 0
IsSaid false old new waits text = IsTaken old new waits text
IsSaid true old new waits text = IsTorn old new text

abbrev pub Holds : {W : Type 0} → (W → SinkState) → SinkState → Paper W → List ℕ → Type 0
Holds state old paper text = IsSaid paper.has_failed old (state paper.out.now) paper.waiting.now text

-- a text was printed after whatever was printed before, for the same sink
pub record Says {W : Type 0} (state : W → SinkState) (old new : Paper W) (text : List ℕ) : Type 0 where
  pub same : new.out.ghost_name ≡ old.out.ghost_name
  pub said : (start : SinkState) → (before : List ℕ) → Holds state start old before → Holds state start new (before ++ text)

-- nothing was printed on the paper, for a sink in this state
pub record IsBlank {W : Type 0} (state : W → SinkState) (start : SinkState) (paper : Paper W) : Type 0 where
  pub sink : state paper.out.now ≡ start
  pub none : Holds state start paper []

-- a report was printed and its outcome answered, or nothing was printed, as where memory ran out
pub record Prints {W E : Type 0} (state : W → SinkState) (old new : Paper W) (report : Report) (answer : Result Outcome E) : Type 0 where
  pub said : OnOk answer (Says state old new report.text)
  pub answered : IfOk answer (λ outcome. outcome ≡ report.outcome)
  pub untouched : OnErr answer (new ≡ old)
