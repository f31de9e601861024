-- What one line does to what was read before it. The reader takes these steps; that they lead
-- to what the text says is proved in proofs/.
use Rattle.std.specs.Prelude.{ℕ, ◌==◌, true, false, List, [], ◌∷◌, ◌++◌, length, if◌then◌else◌, Option, Some, None}
use Rattle.cudf_text.specs.declared.fault.Fault.{Fault}
use Rattle.cudf_text.specs.declared.fault.Kind.TheVariants.{E2, E3}
use Rattle.cudf_text.specs.declared.cursor.StanzaState.{StanzaState}
use Rattle.cudf_text.specs.declared.cursor.StanzaState.TheVariants as taken
use Rattle.cudf_text.specs.Lines.{Class, comment, blank, continuation, named, faulty}
use Rattle.cudf_text.specs.Working.Tracked.{TrackedValue, TrackedProperty, TrackedStanza}

-- the stanzas that have ended, the properties of the open one, and its last line
pub record State : Type 0 where
  pub stanzas : List TrackedStanza
  pub properties : List TrackedProperty
  pub last : ℕ

-- no stanza has ended yet
abbrev pub open_state : List TrackedProperty → ℕ → State
open_state ps last = record { stanzas = []; properties = ps; last = last }

-- the line of the first of these properties
abbrev pub line_of : List TrackedProperty → Option ℕ
line_of [] = None
line_of (p ∷ ps) = Some p.line

-- the stanzas, and after them the one of these properties, if there are any
abbrev pub with_stanza : List TrackedStanza → ℕ → List TrackedProperty → List TrackedStanza
with_stanza stanzas last [] = stanzas
with_stanza stanzas last (p ∷ ps) = stanzas ++ record { line = p.line; last = last; properties = p ∷ ps } ∷ []

-- the open stanza has ended
abbrev pub ended : State → State
ended s = record { stanzas = with_stanza s.stanzas s.last s.properties; properties = []; last = s.last }

-- a value with one more text
abbrev pub value_onto : TrackedValue → List ℕ → TrackedValue
value_onto value text =
    if length text == 0 then value
    else (if length value.bytes == 0 then record { bytes = text; owned = false }
    else record { bytes = value.bytes ++ 32 ∷ text; owned = true })

-- one more text for the last property
abbrev pub extend_last : List TrackedProperty → List ℕ → List TrackedProperty
extend_last [] text = []
extend_last (p ∷ []) text = record { line = p.line; name = p.name; value = value_onto p.value text } ∷ []
extend_last (p ∷ q ∷ ps) text = p ∷ extend_last (q ∷ ps) text

-- a continuation: it belongs to the last property of the open stanza
abbrev pub continued : State → ℕ → List ℕ → State × Option Fault
continued s n text =
    if length s.properties == 0 then (s, Some (record { line = n; kind = E3 }))
    else (record { stanzas = s.stanzas; properties = extend_last s.properties text; last = n }, None)

-- a name line: one more property
abbrev pub with_property : State → ℕ → List ℕ → List ℕ → State
with_property s n name text =
    record { stanzas = s.stanzas; properties = s.properties ++ record { line = n; name = name; value = record { bytes = text; owned = false } } ∷ []; last = n }

-- what is read after the line of this number and class, and what is wrong with it
abbrev pub step : State → ℕ → Class → State × Option Fault
step s n comment = (s, None)
step s n blank = (ended s, None)
step s n (continuation text) = continued s n text
step s n (named name text) = (with_property s n name text, None)
step s n faulty = (record { stanzas = s.stanzas; properties = s.properties; last = n }, Some (record { line = n; kind = E2 }))

-- the same, by what the code answers on the line of this number
abbrev pub stepped : StanzaState → ℕ → State → State × Option Fault
stepped taken.On n s = (s, None)
stepped (taken.End line) n s =
    (record { stanzas = record { line = line; last = s.last; properties = s.properties } ∷ []; properties = []; last = s.last }, None)
stepped (taken.Fault kind) n s = (s, Some (record { line = n; kind = kind }))
