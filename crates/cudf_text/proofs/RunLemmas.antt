-- All the steps over the lines of a text lead to what the text says.
use Rattle.std.proofs.Common.{◌≡◌, ℕ, ◌<◌, suc, true, false, List, [], ◌∷◌, ◌++◌, length, filter, Option, Some, None, refl, sym, ◌∙◌, ap, arith}
use Rattle.std.specs.List.{cons_option, onto_first, slice_split}
use Rattle.std.proofs.lemmas.List.{append_assoc, append-nil, length_push}
use Rattle.std.proofs.lemmas.Bool.{ne_eqb}
use Rattle.cudf_text.specs.declared.fault.Fault.{Fault}
use Rattle.cudf_text.specs.Lines.{is_blank_line, Class, comment, blank, continuation, named, faulty, NumberedLine, is_no_comment}
use Rattle.cudf_text.specs.Working.Reading.{is_open, line_fault, fault_after, read_after}
use Rattle.cudf_text.specs.Stanzas.{continuations, last_number}
use Rattle.cudf_text.specs.Working.Tracked.{TrackedProperty, TrackedStanza, TrackedValue, joined, properties, stanza_with, stanzas_of}
use Rattle.cudf_text.specs.Working.Steps.{State, continued, ended, extend_last, step, with_stanza}
use Rattle.cudf_text.proofs.ValueLemmas.{joined-push, joined-one}

-- ---- the run

abbrev pub state : List TrackedStanza → List TrackedProperty → ℕ → State
state stanzas ps last = record { stanzas = stanzas; properties = ps; last = last }

-- the stanzas and the first fault, once the lines are taken from this state on
abbrev pub outcome : State → Option Fault → List NumberedLine → List TrackedStanza × Option Fault
outcome s (Some f) ls = ((ended s).stanzas, Some f)
outcome s None [] = ((ended s).stanzas, None)
outcome s None ((n, c) ∷ ls) = outcome (step s n c).0 (step s n c).1 ls

pair : {A B : Type 0} {a b : A} {c d : B} → a ≡ b → c ≡ d → ◌≡◌ {A = A × B} (a, c) (b, d)
pair p q = λ i. (p i, q i)

-- ---- where reading ends

read_after-sound : (before : Class) (l : NumberedLine) (ls : List NumberedLine) → line_fault before l ≡ None → read_after before (l ∷ ls) ≡ l ∷ read_after l.1 ls
read_after-sound before (n, c) ls e = rw e refl

fault_after-sound : (before : Class) (l : NumberedLine) (ls : List NumberedLine) → line_fault before l ≡ None → fault_after before (l ∷ ls) ≡ fault_after l.1 ls
fault_after-sound before (n, c) ls e = rw e refl

-- ---- the lines of an open stanza

abbrev AllOpen : List NumberedLine → Type 0
AllOpen [] = Unit {0}
AllOpen (l ∷ ls) = (is_open l.1 ≡ true) × AllOpen ls

-- the lines that were read of the open stanza
record IsPart (part : List NumberedLine) : Type 0 where
  opens : AllOpen part
  some : 0 < length (properties part)

AllOpen-push : (ls : List NumberedLine) (l : NumberedLine) → AllOpen ls → is_open l.1 ≡ true → AllOpen (ls ++ l ∷ [])
AllOpen-push [] l opens o = (o, tt)
AllOpen-push (m ∷ ls) l opens o = (opens.0, AllOpen-push ls l opens.1 o)

last_number-push : (ls : List NumberedLine) (n : ℕ) (c : Class) → last_number (ls ++ (n, c) ∷ []) ≡ n
last_number-push [] n c = refl
last_number-push (l ∷ []) n c = refl
last_number-push (l ∷ m ∷ ls) n c = last_number-push (m ∷ ls) n c

-- ---- one more line that is no continuation

abbrev IsNoContinuation : NumberedLine → Type 0
IsNoContinuation l = continuations (l ∷ []) ≡ []

continuations-push_other : (ls : List NumberedLine) (l : NumberedLine) → IsNoContinuation l → continuations (ls ++ l ∷ []) ≡ continuations ls
continuations-push_other [] l other = other
continuations-push_other ((m, continuation text) ∷ ls) l other = ap (λ texts. text ∷ texts) (continuations-push_other ls l other)
continuations-push_other ((m, _) ∷ ls) l other = refl

abbrev property : ℕ → List ℕ → TrackedValue → TrackedProperty
property n name value = record { line = n; name = name; value = value }

properties-push_other : (ls : List NumberedLine) (l : NumberedLine) → IsNoContinuation l → properties (ls ++ l ∷ []) ≡ properties ls ++ properties (l ∷ [])
properties-push_other [] l other = refl
properties-push_other ((m, named name text) ∷ ls) l other =
    rw (continuations-push_other ls l other) (ap (λ ps. property m name (joined (text ∷ continuations ls)) ∷ ps) (properties-push_other ls l other))
properties-push_other ((m, _) ∷ ls) l other = properties-push_other ls l other

properties-push_named : (ls : List NumberedLine) (n : ℕ) (name text : List ℕ)
    → properties (ls ++ (n, named name text) ∷ []) ≡ properties ls ++ property n name (record { bytes = text; owned = false }) ∷ []
properties-push_named ls n name text =
    properties-push_other ls (n, named name text) refl ∙ ap (λ (v : TrackedValue). properties ls ++ property n name v ∷ []) (joined-one text)

properties-push_faulty : (ls : List NumberedLine) (n : ℕ) → properties (ls ++ (n, faulty) ∷ []) ≡ properties ls
properties-push_faulty ls n = properties-push_other ls (n, faulty) refl ∙ append-nil (properties ls)

-- ---- one more continuation

-- it follows the name line directly, where no other name line is between
continuations-push_none : (ls : List NumberedLine) (n : ℕ) (text : List ℕ) → AllOpen ls → properties ls ≡ []
    → continuations (ls ++ (n, continuation text) ∷ []) ≡ continuations ls ++ text ∷ []
continuations-push_none [] n text opens none = refl
continuations-push_none ((m, continuation t) ∷ ls) n text opens none = ap (λ texts. t ∷ texts) (continuations-push_none ls n text opens.1 none)
continuations-push_none ((m, named name t) ∷ ls) n text opens none = cc
continuations-push_none ((m, _) ∷ ls) n text opens none = let never = opens.0 in cc

-- and else it does not
continuations-push_some : (ls : List NumberedLine) (l : NumberedLine) (p : TrackedProperty) (ps : List TrackedProperty) → properties ls ≡ p ∷ ps
    → continuations (ls ++ l ∷ []) ≡ continuations ls
continuations-push_some [] l p ps some = cc
continuations-push_some ((m, continuation t) ∷ ls) l p ps some = ap (λ texts. t ∷ texts) (continuations-push_some ls l p ps some)
continuations-push_some ((m, _) ∷ ls) l p ps some = refl

-- after a name line it is the last property's, or another's after that
push_after_name : (m : ℕ) (name t : List ℕ) (ls : List NumberedLine) (n : ℕ) (text : List ℕ) → AllOpen ls → (ps : List TrackedProperty) → properties ls ≡ ps
    → properties (ls ++ (n, continuation text) ∷ []) ≡ extend_last ps text
    → property m name (joined (t ∷ continuations (ls ++ (n, continuation text) ∷ []))) ∷ properties (ls ++ (n, continuation text) ∷ [])
    ≡ extend_last (property m name (joined (t ∷ continuations ls)) ∷ ps) text
push_after_name m name t ls n text opens [] e h =
    rw (h, continuations-push_none ls n text opens e) (ap (λ (v : TrackedValue). property m name v ∷ []) (joined-push (t ∷ continuations ls) text))
push_after_name m name t ls n text opens (p ∷ ps) e h = rw (h, continuations-push_some ls (n, continuation text) p ps e) refl

properties-push_continuation : (ls : List NumberedLine) (n : ℕ) (text : List ℕ) → AllOpen ls
    → properties (ls ++ (n, continuation text) ∷ []) ≡ extend_last (properties ls) text
properties-push_continuation [] n text opens = refl
properties-push_continuation ((m, continuation t) ∷ ls) n text opens = properties-push_continuation ls n text opens.1
properties-push_continuation ((m, named name t) ∷ ls) n text opens =
    push_after_name m name t ls n text opens.1 (properties ls) refl (properties-push_continuation ls n text opens.1)
properties-push_continuation ((m, _) ∷ ls) n text opens = let never = opens.0 in cc

length-extend_last : (ps : List TrackedProperty) (text : List ℕ) → length (extend_last ps text) ≡ length ps
length-extend_last [] text = refl
length-extend_last (p ∷ []) text = refl
length-extend_last (p ∷ q ∷ ps) text = ap suc (length-extend_last (q ∷ ps) text)

-- ---- the stanza of such lines

open-not_blank : (l : NumberedLine) → is_open l.1 ≡ true → is_blank_line l ≡ false
open-not_blank (n, blank) o = cc
open-not_blank (n, _) o = refl

slice_split-part : (part ls x : List NumberedLine) (xs : List (List NumberedLine)) → AllOpen part → slice_split is_blank_line ls ≡ x ∷ xs
    → slice_split is_blank_line (part ++ ls) ≡ (part ++ x) ∷ xs
slice_split-part [] ls x xs opens e = e
slice_split-part (l ∷ part) ls x xs opens e = rw (open-not_blank l opens.0) (ap (onto_first l) (slice_split-part part ls x xs opens.1 e))

with_stanza-is : (stanzas : List TrackedStanza) (last : ℕ) (ps : List TrackedProperty) (rest : List TrackedStanza)
    → with_stanza stanzas last ps ++ rest ≡ stanzas ++ cons_option (stanza_with last ps) rest
with_stanza-is stanzas last [] rest = refl
with_stanza-is stanzas last (p ∷ ps) rest = append_assoc stanzas _ rest

part-blank : (stanzas : List TrackedStanza) (part : List NumberedLine) (n : ℕ) (ls : List NumberedLine) → AllOpen part
    → with_stanza stanzas (last_number part) (properties part) ++ stanzas_of ls ≡ stanzas ++ stanzas_of (part ++ (n, blank) ∷ ls)
part-blank stanzas part n ls opens =
    let split = slice_split-part part ((n, blank) ∷ ls) [] (slice_split is_blank_line ls) opens refl in
    rw split (rw (append-nil part) (with_stanza-is stanzas (last_number part) (properties part) (stanzas_of ls)))

part-end : (stanzas : List TrackedStanza) (part : List NumberedLine) → AllOpen part
    → with_stanza stanzas (last_number part) (properties part) ≡ stanzas ++ stanzas_of (part ++ [])
part-end stanzas part opens =
    let split = slice_split-part part [] [] [] opens refl in
    rw split (rw (append-nil part) (sym (append-nil _) ∙ with_stanza-is stanzas (last_number part) (properties part) []))

part-faulty : (stanzas : List TrackedStanza) (part : List NumberedLine) (n : ℕ) → AllOpen part
    → with_stanza stanzas n (properties part) ≡ stanzas ++ stanzas_of (part ++ (n, faulty) ∷ [])
part-faulty stanzas part n opens =
    let split = slice_split-part part ((n, faulty) ∷ []) ((n, faulty) ∷ []) [] opens refl in
    rw split (rw (last_number-push part n faulty, properties-push_faulty part n) (sym (append-nil _) ∙ with_stanza-is stanzas n (properties part) []))

-- ---- the run from a state where no stanza is open, and from one where one is

abbrev judged : List NumberedLine → List NumberedLine
judged ls = filter is_no_comment ls

record Runs (ls : List NumberedLine) : Type 0 where
  closed : (stanzas : List TrackedStanza) (last : ℕ) → ◌≡◌ {A = List TrackedStanza × Option Fault} (outcome (state stanzas [] last) None ls)
      (stanzas ++ stanzas_of (read_after blank (judged ls)), fault_after blank (judged ls))
  within : (stanzas : List TrackedStanza) (part : List NumberedLine) (before : Class) → IsPart part → is_open before ≡ true
      → ◌≡◌ {A = List TrackedStanza × Option Fault} (outcome (state stanzas (properties part) (last_number part)) None ls)
      (stanzas ++ stanzas_of (part ++ read_after before (judged ls)), fault_after before (judged ls))

-- a line joins the open stanza, and the lines after it are read on
joins : (stanzas : List TrackedStanza) (part : List NumberedLine) (before : Class) (n : ℕ) (c : Class) (ls : List NumberedLine) (ps : List TrackedProperty)
    → Runs ls → IsPart (part ++ (n, c) ∷ []) → is_open c ≡ true → line_fault before (n, c) ≡ None → properties (part ++ (n, c) ∷ []) ≡ ps
    → ◌≡◌ {A = List TrackedStanza × Option Fault} (outcome (state stanzas ps n) None ls)
    (stanzas ++ stanzas_of (part ++ read_after before ((n, c) ∷ judged ls)), fault_after before ((n, c) ∷ judged ls))
joins stanzas part before n c ls ps runs is o sound e =
    let more = runs.within stanzas (part ++ (n, c) ∷ []) c is o in
    let from_here = rw (e, last_number-push part n c, append_assoc part ((n, c) ∷ []) (read_after c (judged ls))) at more in
    rw (read_after-sound before (n, c) (judged ls) sound, fault_after-sound before (n, c) (judged ls) sound) from_here

continued-some : (stanzas : List TrackedStanza) (ps : List TrackedProperty) (last n : ℕ) (text : List ℕ) → 0 < length ps
    → ◌≡◌ {A = State × Option Fault} (continued (state stanzas ps last) n text) (state stanzas (extend_last ps text) n, None)
continued-some stanzas ps last n text some = rw (ne_eqb (length ps) 0 (λ e. omega arith)) refl

runs-continuation : (n : ℕ) (text : List ℕ) (ls : List NumberedLine) → Runs ls → Runs ((n, continuation text) ∷ ls)
runs-continuation n text ls runs = record {
  closed = λ stanzas last. pair (sym (append-nil stanzas)) refl;
  within = λ stanzas part before is o.
      let some = is.some in
      let ps = properties-push_continuation part n text is.opens in
      let more : IsPart (part ++ (n, continuation text) ∷ []) = record {
        opens = AllOpen-push part (n, continuation text) is.opens refl;
        some = rw (ps, length-extend_last (properties part) text) some;
      } in
      ap (λ (r : State × Option Fault). outcome r.0 r.1 ls) (continued-some stanzas (properties part) (last_number part) n text some)
      ∙ joins stanzas part before n (continuation text) ls (extend_last (properties part) text) runs more refl (rw o refl) ps;
}

runs-named : (n : ℕ) (name text : List ℕ) (ls : List NumberedLine) → Runs ls → Runs ((n, named name text) ∷ ls)
runs-named n name text ls runs = record {
  closed = λ stanzas last.
      joins stanzas [] blank n (named name text) ls (property n name (record { bytes = text; owned = false }) ∷ []) runs
      (record { opens = (refl, tt); some = omega arith }) refl refl (properties-push_named [] n name text);
  within = λ stanzas part before is o.
      let ps = properties-push_named part n name text in
      let more : IsPart (part ++ (n, named name text) ∷ []) = record {
        opens = AllOpen-push part (n, named name text) is.opens refl;
        some = rw (ps, length_push (properties part) _) (omega arith);
      } in
      joins stanzas part before n (named name text) ls _ runs more refl refl ps;
}

runs : (ls : List NumberedLine) → Runs ls
runs [] = record {
  closed = λ stanzas last. pair (sym (append-nil stanzas)) refl;
  within = λ stanzas part before is o. pair (part-end stanzas part is.opens) refl;
}
runs ((n, comment) ∷ ls) = record { closed = (runs ls).closed; within = (runs ls).within }
runs ((n, blank) ∷ ls) = record {
  closed = (runs ls).closed;
  within = λ stanzas part before is o.
      (runs ls).closed (with_stanza stanzas (last_number part) (properties part)) (last_number part)
      ∙ pair (part-blank stanzas part n (read_after blank (judged ls)) is.opens) refl;
}
runs ((n, continuation text) ∷ ls) = runs-continuation n text ls (runs ls)
runs ((n, named name text) ∷ ls) = runs-named n name text ls (runs ls)
runs ((n, faulty) ∷ ls) = record {
  closed = λ stanzas last. pair (sym (append-nil stanzas)) refl;
  within = λ stanzas part before is o. pair (part-faulty stanzas part n is.opens) refl;
}

-- from a state where no stanza is open, after these stanzas
pub closed_is : (stanzas : List TrackedStanza) (last : ℕ) (ls : List NumberedLine) → ◌≡◌ {A = List TrackedStanza × Option Fault} (outcome (state stanzas [] last) None ls)
    (stanzas ++ stanzas_of (read_after blank (filter is_no_comment ls)), fault_after blank (filter is_no_comment ls))
closed_is stanzas last ls = (runs ls).closed stanzas last
