-- What a cursor has read after each line.
use Rattle.std.proofs.Common.{◌≡◌, ℕ, ◌+◌, ◌≤◌, Bool, true, false, not, is_some, List, [], ◌∷◌, length, map, Option, Some, None, refl, sym, ap, ◌∙◌, arith}
use Rattle.std.specs.List.{enumerate_from}
use Rattle.cudf_text.specs.declared.cursor.ReadPosition.{ReadPosition}
use Rattle.cudf_text.specs.declared.fault.Fault.{Fault}
use Rattle.cudf_text.specs.Lines.{class, lines, NumberedLine}
use Rattle.cudf_text.specs.Working.Left.{left, numbered_from, text_left}
use Rattle.cudf_text.specs.Working.Tracked.{TrackedProperty, TrackedStanza, TrackedText}
use Rattle.cudf_text.specs.Working.Steps.{State, open_state, step}
use Rattle.cudf_text.proofs.RunLemmas.{outcome, closed_is, state}

-- from the first place the lines up to the other were read, and this is what they gave
pub record SoFar (start : ReadPosition) (s : State) (place : ReadPosition) : Type 0 where
  pub run : ◌≡◌ {A = List TrackedStanza × Option Fault} (outcome s place.fault (numbered_from (place.lines + 1) place.rest.now)) (left start.fault (numbered_from (start.lines + 1) start.rest.now))
  pub count : place.lines + length (lines place.rest.now) ≡ start.lines + length (lines start.rest.now)
  pub bound : place.lines + length place.rest.now ≤ start.lines + length start.rest.now

left-start : (last : ℕ) (fault : Option Fault) (ls : List NumberedLine) → ◌≡◌ {A = List TrackedStanza × Option Fault} (outcome (state [] [] last) fault ls) (left fault ls)
left-start last None ls = closed_is [] last ls
left-start last (Some f) ls = refl

pub SoFar-start : (place : ReadPosition) (ps : List TrackedProperty) → ps ≡ [] → SoFar place (open_state ps 0) place
SoFar-start place ps none = record {
  run = ap (λ (qs : List TrackedProperty). outcome (open_state qs 0) place.fault (numbered_from (place.lines + 1) place.rest.now)) none
      ∙ left-start 0 place.fault (numbered_from (place.lines + 1) place.rest.now);
  count = refl;
  bound = omega arith;
}

-- a line has ended a stanza, which comes before what is left
pub SoFar-stanza : (start place : ReadPosition) (s : State) (line rest : List ℕ) (st : TrackedStanza) (last : ℕ) → SoFar start s place → place.fault ≡ None → lines place.rest.now ≡ line ∷ lines rest
    → ◌≡◌ {A = State × Option Fault} (step s (place.lines + 1) (class line)) (state (st ∷ []) [] last, None)
    → let t : TrackedText = record { stanzas = st ∷ (left place.fault (numbered_from (place.lines + 1 + 1) rest)).0; fault = (left place.fault (numbered_from (place.lines + 1 + 1) rest)).1; lines = place.lines + 1 + length (lines rest) } in
    text_left start ≡ t
SoFar-stanza start place s line rest st last so_far none e taken =
    let ls : List NumberedLine = numbered_from (place.lines + 1 + 1) rest in
    let said : ◌≡◌ {A = List TrackedStanza × Option Fault} (left start.fault (numbered_from (start.lines + 1) start.rest.now)) (st ∷ (left place.fault ls).0, (left place.fault ls).1) =
    sym so_far.run ∙ (λ i. outcome s (none i) (enumerate_from (place.lines + 1) (map class (e i)))) ∙ ap (λ (r : State × Option Fault). outcome r.0 r.1 ls) taken
    ∙ closed_is (st ∷ []) last ls ∙ (λ i. (st ∷ (left (sym none i) ls).0, (left (sym none i) ls).1)) in
    let all : start.lines + length (lines start.rest.now) ≡ place.lines + 1 + length (lines rest) = omega (arith, so_far.count, ap length e) in
    λ i. let t : TrackedText = record { stanzas = (said i).0; fault = (said i).1; lines = all i } in t

pub no_fault : (fault : Option Fault) (none : Bool) → is_some fault ≡ not none → none ≡ true → fault ≡ None
no_fault None none h e = refl
no_fault (Some f) true h e = absurd cc
no_fault (Some f) false h e = absurd cc
