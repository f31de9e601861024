-- The lines that are read are those down to the first fault's, since their numbers ascend.
use Rattle.std.proofs.Common.{◌≡◌, ℕ, ◌+◌, ◌<◌, ◌≤◌, Bool, true, false, List, [], ◌∷◌, filter, map, find, Option, Some, None, option_map, refl, sym, ◌∙◌, ap, arith}
use Rattle.std.specs.Prelude.{is_none, slice_get, filter_map, if◌then◌else◌}
use Rattle.std.specs.List.{enumerate_from, slice_split, onto_first, cons_option}
use Rattle.std.specs.Option.{option_or}
use Rattle.std.proofs.lemmas.Bool.{le-leb, lt-leb}
use Rattle.cudf_text.specs.declared.fault.Fault.{Fault}
use Rattle.cudf_text.specs.declared.fault.Kind.{Kind}
use Rattle.cudf_text.specs.declared.fault.Kind.TheVariants.{E2, E3}
use Rattle.cudf_text.specs.Lines.{Class, comment, blank, continuation, named, faulty, NumberedLine, is_blank_line, is_no_comment, class, lines, judged_lines}
use Rattle.cudf_text.specs.LineFaults.{is_faulty, fault_in, first_fault, is_read, read_lines}
use Rattle.cudf_text.specs.Working.Reading.{is_open, read_after, fault_after}

-- ---- numbers that ascend, the first from above n

abbrev pub Ascends : ℕ → List NumberedLine → Type 0
Ascends n [] = Unit {0}
Ascends n ((m, c) ∷ ls) = (n < m) × Ascends m ls

Ascends-below : (n m : ℕ) (ls : List NumberedLine) → n < m → Ascends m ls → Ascends n ls
Ascends-below n m [] less up = tt
Ascends-below n m ((k, c) ∷ ls) less up = let first = up.0 in (omega arith, up.1)

Ascends-filter : (n : ℕ) (ls : List NumberedLine) → Ascends n ls → Ascends n (filter is_no_comment ls)
Ascends-filter n [] up = tt
Ascends-filter n ((m, comment) ∷ ls) up = Ascends-below n m (filter is_no_comment ls) up.0 (Ascends-filter m ls up.1)
Ascends-filter n ((m, _) ∷ ls) up = (up.0, Ascends-filter m ls up.1)

Ascends-numbered : (n m : ℕ) (classes : List Class) → n < m → Ascends n (enumerate_from m classes)
Ascends-numbered n m [] less = tt
Ascends-numbered n m (c ∷ classes) less = (less, Ascends-numbered m (m + 1) classes (omega arith))

-- ---- the first fault, line by line

abbrev on : ℕ → Kind → Fault
on n kind = record { line = n; kind = kind }

-- the first faulty line, whatever comes first
abbrev faulty_in : List NumberedLine → Option Fault
faulty_in ls = option_map (λ l. on l.0 E2) (find is_faulty ls)

-- the first fault of the parts, where the first part goes on after a line of this class
abbrev fault_of : Bool → List (List NumberedLine) → Option Fault
fault_of opens [] = None
fault_of opens (part ∷ parts) = option_or (if opens then faulty_in part else fault_in part) (slice_get (filter_map fault_in parts) 0)

or_first : (fault : Option Fault) (faults : List Fault) → slice_get (cons_option fault faults) 0 ≡ option_or fault (slice_get faults 0)
or_first None faults = refl
or_first (Some f) faults = refl

-- after a blank line the first part is one as all others
behind_blank : (parts : List (List NumberedLine)) → fault_of false parts ≡ slice_get (filter_map fault_in parts) 0
behind_blank [] = refl
behind_blank (part ∷ parts) = sym (or_first (fault_in part) (filter_map fault_in parts))

blank_step : (opens : Bool) (parts : List (List NumberedLine)) → fault_of false parts ≡ fault_of opens ([] ∷ parts)
blank_step true parts = behind_blank parts
blank_step false parts = behind_blank parts

faulty_step : (opens : Bool) (n : ℕ) (rest : Option Fault) (parts : List (List NumberedLine)) → option_or (Some (on n E2)) rest ≡ fault_of opens (onto_first (n, faulty) parts)
faulty_step true n rest [] = refl
faulty_step false n rest [] = refl
faulty_step true n rest (part ∷ parts) = refl
faulty_step false n rest (part ∷ parts) = refl

named_step : (opens : Bool) (n : ℕ) (name text : List ℕ) (parts : List (List NumberedLine)) → fault_of true parts ≡ fault_of opens (onto_first (n, named name text) parts)
named_step true n name text [] = refl
named_step false n name text [] = refl
named_step true n name text (part ∷ parts) = refl
named_step false n name text (part ∷ parts) = refl

continued_step : (opens : Bool) (n : ℕ) (text : List ℕ) (parts : List (List NumberedLine))
    → option_or (if opens then None else Some (on n E3)) (fault_of true parts) ≡ fault_of opens (onto_first (n, continuation text) parts)
continued_step true n text [] = refl
continued_step false n text [] = refl
continued_step true n text (part ∷ parts) = refl
continued_step false n text (part ∷ parts) = refl

-- the lines that count, part by part
parts_of : List NumberedLine → List (List NumberedLine)
parts_of ls = slice_split is_blank_line (filter is_no_comment ls)

first_is : (before : Class) (ls : List NumberedLine) → fault_after before (filter is_no_comment ls) ≡ fault_of (is_open before) (parts_of ls)
unfolding parts_of
first_is before [] = nothing (is_open before)
  where
    nothing : (opens : Bool) → ◌≡◌ {A = Option Fault} None (fault_of opens ([] ∷ []))
    nothing true = refl
    nothing false = refl
first_is before ((n, comment) ∷ ls) = first_is before ls
first_is before ((n, blank) ∷ ls) = first_is blank ls ∙ blank_step (is_open before) (parts_of ls)
first_is before ((n, continuation text) ∷ ls) =
    ap (option_or (if is_open before then None else Some (on n E3))) (first_is (continuation text) ls) ∙ continued_step (is_open before) n text (parts_of ls)
first_is before ((n, named name text) ∷ ls) = first_is (named name text) ls ∙ named_step (is_open before) n name text (parts_of ls)
first_is before ((n, faulty) ∷ ls) = faulty_step (is_open before) n (fault_after faulty (filter is_no_comment ls)) (parts_of ls)

-- ---- what is read down to its line

abbrev IsAbove : ℕ → Option Fault → Type 0
IsAbove n None = Unit {0}
IsAbove n (Some f) = n < f.line

continued-above : (n m : ℕ) (opens : Bool) (fault : Option Fault) → n < m → IsAbove n fault → IsAbove n (option_or (if opens then None else Some (on m E3)) fault)
continued-above n m true fault less is = is
continued-above n m false fault less is = less

above : (n : ℕ) (before : Class) (ls : List NumberedLine) → Ascends n ls → IsAbove n (fault_after before ls)
above n before [] up = tt
above n before ((m, faulty) ∷ ls) up = up.0
above n before ((m, continuation text) ∷ ls) up =
    continued-above n m (is_open before) (fault_after (continuation text) ls) up.0 (above n (continuation text) ls (Ascends-below n m ls up.0 up.1))
above n before ((m, c) ∷ ls) up = above n c ls (Ascends-below n m ls up.0 up.1)

none_after : (m : ℕ) (kind : Kind) (n : ℕ) (ls : List NumberedLine) → m ≤ n → Ascends n ls → filter (is_read (Some (on m kind))) ls ≡ []
none_after m kind n [] least up = refl
none_after m kind n ((k, c) ∷ ls) least up =
    let first = up.0 in
    rw (lt-leb k m (omega arith)) (none_after m kind k ls (omega arith) up.1)

stops : (m : ℕ) (c : Class) (kind : Kind) (ls : List NumberedLine) → Ascends m ls → filter (is_read (Some (on m kind))) ((m, c) ∷ ls) ≡ (m, c) ∷ []
stops m c kind ls up = rw (le-leb m m (omega arith)) (ap (λ xs. (m, c) ∷ xs) (none_after m kind m ls (omega arith) up))

goes_on : (m : ℕ) (c : Class) (ls rest : List NumberedLine) (fault : Option Fault) → IsAbove m fault → filter (is_read fault) ls ≡ rest
    → filter (is_read fault) ((m, c) ∷ ls) ≡ (m, c) ∷ rest
goes_on m c ls rest None less e = ap (λ xs. (m, c) ∷ xs) e
goes_on m c ls rest (Some f) less e = rw (le-leb m f.line (omega arith)) (ap (λ xs. (m, c) ∷ xs) e)

continued-read : (m : ℕ) (text : List ℕ) (opens : Bool) (fault : Option Fault) (ls rest : List NumberedLine) → IsAbove m fault → Ascends m ls
    → filter (is_read fault) ls ≡ rest
    → filter (is_read (option_or (if opens then None else Some (on m E3)) fault)) ((m, continuation text) ∷ ls)
    ≡ (m, continuation text) ∷ (if is_none (if opens then None else Some (on m E3)) then rest else [])
continued-read m text true fault ls rest less up e = goes_on m (continuation text) ls rest fault less e
continued-read m text false fault ls rest less up e = stops m (continuation text) E3 ls up

read_is : (n : ℕ) (before : Class) (ls : List NumberedLine) → Ascends n ls → filter (is_read (fault_after before ls)) ls ≡ read_after before ls
read_is n before [] up = refl
read_is n before ((m, faulty) ∷ ls) up = stops m faulty E2 ls up.1
read_is n before ((m, continuation text) ∷ ls) up =
    continued-read m text (is_open before) (fault_after (continuation text) ls) ls _ (above m (continuation text) ls up.1) up.1 (read_is m (continuation text) ls up.1)
read_is n before ((m, c) ∷ ls) up = goes_on m c ls _ _ (above m c ls up.1) (read_is m c ls up.1)

-- ---- of a whole text

pub first_fault-is : (text : List ℕ) → first_fault text ≡ fault_after blank (judged_lines text)
unfolding parts_of
first_fault-is text = sym (first_is blank (enumerate_from 1 (map class (lines text))) ∙ behind_blank (slice_split is_blank_line (judged_lines text)))

pub read_lines-is : (text : List ℕ) → read_lines text ≡ read_after blank (judged_lines text)
read_lines-is text = ap (λ f. filter (is_read f) (judged_lines text)) (first_fault-is text) ∙ read_is 0 blank (judged_lines text) (Ascends-filter 0 _ (Ascends-numbered 0 1 (map class (lines text)) (omega arith)))
