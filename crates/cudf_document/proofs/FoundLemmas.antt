-- A line is found in the stanza and the property that have it.
use Rattle.std.proofs.Common.{◌≡◌, ℕ, ◌+◌, ◌<◌, ◌≤◌, ◌==◌, nat_le, Bool, true, false, cond, List, [], ◌∷◌, ◌++◌, Option, Some, All, find, filter, filter_map, map, slice_get, refl, sym, ap, subst, ◌∙◌, arith, option_map}
use Rattle.std.proofs.lemmas.Bool.Decides.{nat_tests}
use Rattle.std.proofs.lemmas.List.Elements.{All-nil, All-cons}
use Rattle.std.specs.List.{enumerate_from, slice_split, onto_first, last_or, cons_option}
use Rattle.std.specs.Option.{option_map_or}
use Rattle.cudf_text.specs.Lines.{Class, comment, blank, continuation, named, faulty, NumberedLine, class, lines, is_no_comment, is_blank_line, judged_lines}
use Rattle.cudf_text.specs.LineFaults.{is_read, first_fault, read_lines}
use Rattle.cudf_text.specs.Stanzas.{PlainProperty, PlainStanza, properties, last_number, stanza_of, stanzas_of}
use Rattle.cudf_problem.specs.Documents.{with_earlier}
use Rattle.cudf_document.specs.Details.{stanza_on, property_on}

-- ---- numbered lines

-- their numbers ascend, and are greater than this one
abbrev Above : ℕ → List NumberedLine → Type 0
Above n [] = Unit {0}
Above n (l ∷ ls) = (n < l.0) × Above l.0 ls

above-lower : (m n : ℕ) (ls : List NumberedLine) → m ≤ n → Above n ls → Above m ls
above-lower m n [] le a = tt
above-lower m n (l ∷ ls) le a = let below : n < l.0 = a.0 in (omega arith, a.1)

above-enumerate : (n m : ℕ) (cs : List Class) → n < m → Above n (enumerate_from m cs)
above-enumerate n m [] below = tt
above-enumerate n m (c ∷ cs) below = (below, above-enumerate m (m + 1) cs (omega arith))

above-filter : (test : NumberedLine → Bool) (n : ℕ) (ls : List NumberedLine) → Above n ls → Above n (filter test ls)
above-filter test n [] a = tt
above-filter test n (l ∷ ls) a = by (test l) (above-filter test l.0 ls a.1)
  where
    by : (b : Bool) → Above l.0 (filter test ls) → Above n (cond b (l ∷ filter test ls) (filter test ls))
    by true rest = (a.0, rest)
    by false rest = let below : n < l.0 = a.0 in above-lower n l.0 (filter test ls) (omega arith) rest

-- the lines of a text that are read
above-read : (text : List ℕ) → Above 0 (read_lines text)
above-read text =
    above-filter (is_read (first_fault text)) 0 (judged_lines text)
    (above-filter is_no_comment 0 (enumerate_from 1 (map class (lines text))) (above-enumerate 0 1 (map class (lines text)) (omega arith)))

-- the last number, or this one
abbrev last_of : ℕ → List NumberedLine → ℕ
last_of n [] = n
last_of n (l ∷ ls) = last_of l.0 ls

above-last : (n : ℕ) (ls : List NumberedLine) → Above n ls → n ≤ last_of n ls
above-last n [] a = omega arith
above-last n (l ∷ ls) a = let below : n < l.0 = a.0 in let more = above-last l.0 ls a.1 in omega (arith, more)

last_number-some : (o : NumberedLine) (ls : List NumberedLine) → option_map_or (λ l. l.0) (last_or (Some o) ls) 0 ≡ last_of o.0 ls
last_number-some o [] = refl
last_number-some o (l ∷ ls) = last_number-some l ls

last_number-is : (n : ℕ) (ls : List NumberedLine) (p : PlainProperty) (ps : List PlainProperty) → properties ls ≡ p ∷ ps → last_number ls ≡ last_of n ls
last_number-is n [] p ps is = absurd cc
last_number-is n (l ∷ ls) p ps is = last_number-some l ls

-- ---- parts between blank lines

-- the numbers of all lines ascend from part to part
abbrev PartsAbove : ℕ → List (List NumberedLine) → Type 0
PartsAbove n [] = Unit {0}
PartsAbove n (part ∷ parts) = Above n part × PartsAbove (last_of n part) parts

parts-lower : (m n : ℕ) (parts : List (List NumberedLine)) → m ≤ n → PartsAbove n parts → PartsAbove m parts
parts-lower m n [] le a = tt
parts-lower m n ([] ∷ parts) le a = (tt, parts-lower m n parts le a.1)
parts-lower m n ((l ∷ ls) ∷ parts) le a = (above-lower m n (l ∷ ls) le a.0, a.1)

parts-above : (test : NumberedLine → Bool) (n : ℕ) (ls : List NumberedLine) → Above n ls → PartsAbove n (slice_split test ls)
parts-above test n [] a = (tt, tt)
parts-above test n (l ∷ ls) a = by (test l) (parts-above test l.0 ls a.1)
  where
    onto : (parts : List (List NumberedLine)) → PartsAbove l.0 parts → PartsAbove n (onto_first l parts)
    onto [] rest = ((a.0, tt), tt)
    onto (part ∷ parts) rest = ((a.0, rest.0), rest.1)

    by : (b : Bool) → PartsAbove l.0 (slice_split test ls) → PartsAbove n (cond b ([] ∷ slice_split test ls) (onto_first l (slice_split test ls)))
    by true rest = let below : n < l.0 = a.0 in (tt, parts-lower n l.0 (slice_split test ls) (omega arith) rest)
    by false rest = onto (slice_split test ls) rest

-- ---- properties

-- their lines ascend, and are greater than this number
abbrev pub PropertiesAbove : ℕ → List PlainProperty → Type 0
PropertiesAbove n [] = Unit {0}
PropertiesAbove n (p ∷ ps) = (n < p.line) × PropertiesAbove p.line ps

-- each is on one of these lines
abbrev pub Within : ℕ → ℕ → List PlainProperty → Type 0
Within first last [] = Unit {0}
Within first last (p ∷ ps) = ((first ≤ p.line) × (p.line ≤ last)) × Within first last ps

properties-lower : (m n : ℕ) (ps : List PlainProperty) → m ≤ n → PropertiesAbove n ps → PropertiesAbove m ps
properties-lower m n [] le a = tt
properties-lower m n (p ∷ ps) le a = let below : n < p.line = a.0 in (omega arith, a.1)

properties-above : (n : ℕ) (ls : List NumberedLine) → Above n ls → PropertiesAbove n (properties ls)
properties-above n [] a = tt
properties-above n ((k, named name text) ∷ ls) a = (a.0, properties-above k ls a.1)
properties-above n ((k, comment) ∷ ls) a = let below : n < k = a.0 in properties-lower n k (properties ls) (omega arith) (properties-above k ls a.1)
properties-above n ((k, blank) ∷ ls) a = let below : n < k = a.0 in properties-lower n k (properties ls) (omega arith) (properties-above k ls a.1)
properties-above n ((k, continuation text) ∷ ls) a = let below : n < k = a.0 in properties-lower n k (properties ls) (omega arith) (properties-above k ls a.1)
properties-above n ((k, faulty) ∷ ls) a = let below : n < k = a.0 in properties-lower n k (properties ls) (omega arith) (properties-above k ls a.1)

-- none is after the last line
abbrev UpTo : ℕ → List PlainProperty → Type 0
UpTo last [] = Unit {0}
UpTo last (p ∷ ps) = (p.line ≤ last) × UpTo last ps

properties-up_to : (last n : ℕ) (ls : List NumberedLine) → Above n ls → last_of n ls ≤ last → UpTo last (properties ls)
properties-up_to last n [] a le = tt
properties-up_to last n ((k, named name text) ∷ ls) a le = let more = above-last k ls a.1 in (omega (arith, more, le), properties-up_to last k ls a.1 le)
properties-up_to last n ((k, comment) ∷ ls) a le = properties-up_to last k ls a.1 le
properties-up_to last n ((k, blank) ∷ ls) a le = properties-up_to last k ls a.1 le
properties-up_to last n ((k, continuation text) ∷ ls) a le = properties-up_to last k ls a.1 le
properties-up_to last n ((k, faulty) ∷ ls) a le = properties-up_to last k ls a.1 le

within : (first last n : ℕ) (ps : List PlainProperty) → first ≤ n → PropertiesAbove n ps → UpTo last ps → Within first last ps
within first last n [] le a up = tt
within first last n (p ∷ ps) le a up = let below : n < p.line = a.0 in ((omega arith, up.0), within first last p.line ps (omega arith) a.1 up.1)

-- ---- stanzas

-- the properties of a stanza are in their order on its lines
pub record IsOrdered (s : PlainStanza) : Type 0 where
  pub ends : s.line ≤ s.last
  pub within : Within s.line s.last s.properties
  pub above : PropertiesAbove 0 s.properties

-- the lines of stanzas ascend, and are greater than this number
abbrev StanzasAbove : ℕ → List PlainStanza → Type 0
StanzasAbove n [] = Unit {0}
StanzasAbove n (s ∷ ss) = ((n < s.line) × IsOrdered s) × StanzasAbove s.last ss

stanzas-lower : (m n : ℕ) (ss : List PlainStanza) → m ≤ n → StanzasAbove n ss → StanzasAbove m ss
stanzas-lower m n [] le a = tt
stanzas-lower m n (s ∷ ss) le a = let below : n < s.line = a.0.0 in ((omega arith, a.0.1), a.1)

stanzas-above : (n : ℕ) (parts : List (List NumberedLine)) → PartsAbove n parts → StanzasAbove n (filter_map stanza_of parts)
stanzas-above n [] a = tt
stanzas-above n (part ∷ parts) a =
    by (stanzas-above (last_of n part) parts a.1) (properties part) refl (properties-above n part a.0) (properties-up_to (last_of n part) n part a.0 (omega arith))
  where
    by : StanzasAbove (last_of n part) (filter_map stanza_of parts) → (ps : List PlainProperty) → properties part ≡ ps → PropertiesAbove n ps → UpTo (last_of n part) ps
        → StanzasAbove n (cons_option (option_map (λ p. record { line = p.line; last = last_number part; properties = ps }) (slice_get ps 0)) (filter_map stanza_of parts))
    by more [] is above up = stanzas-lower n (last_of n part) (filter_map stanza_of parts) (above-last n part a.0) more
    by more (p ∷ ps) is above up =
        let last = last_number-is n part p ps is in
        let ordered : IsOrdered (record { line = p.line; last = last_of n part; properties = p ∷ ps }) = record {
          ends = up.0;
          within = ((omega arith, up.0), within p.line (last_of n part) p.line ps (omega arith) above.1 up.1);
          above = properties-lower 0 n (p ∷ ps) (omega arith) above;
        } in
        ((above.0, subst (λ k. IsOrdered (record { line = p.line; last = k; properties = p ∷ ps })) (sym last) ordered), subst (λ k. StanzasAbove k (filter_map stanza_of parts)) (sym last) more)

-- ---- what is found

is_up_to : (line last : ℕ) → line ≤ last → nat_le line last ≡ true
is_up_to line last le = grind (arith, nat_tests)

is_beyond : (line last : ℕ) → last < line → nat_le line last ≡ false
is_beyond line last below = grind (arith, nat_tests)

-- the stanza of a line, after those before it, is the one that has the line
pub record IsFound (stanzas : List PlainStanza) (x : List PlainStanza × PlainStanza) : Type 0 where
  pub ordered : IsOrdered x.1
  pub found : (line : ℕ) → x.1.line ≤ line → line ≤ x.1.last → stanza_on line stanzas ≡ Some x

each-found : (stanzas : List PlainStanza) (n : ℕ) (before ss : List PlainStanza) → StanzasAbove n ss
    → ((line : ℕ) → n < line → stanza_on line stanzas ≡ find (λ q. nat_le line q.1.last) (with_earlier before ss))
    → All (IsFound stanzas) (with_earlier before ss)
each-found stanzas n before [] a looked = All-nil (IsFound stanzas)
each-found stanzas n before (s ∷ ss) a looked =
    let starts : n < s.line = a.0.0 in
    let ends : s.line ≤ s.last = a.0.1.ends in
    let later : ℕ → Option (List PlainStanza × PlainStanza) = λ line. find (λ q. nat_le line q.1.last) (with_earlier (before ++ s ∷ []) ss) in
    All-cons (IsFound stanzas) (before, s) (with_earlier (before ++ s ∷ []) ss)
    (record { ordered = a.0.1; found = λ line from to. looked line (omega (arith, starts, from)) ∙ ap (λ b. cond b (Some (before, s)) (later line)) (is_up_to line s.last to) })
    (each-found stanzas s.last (before ++ s ∷ []) ss a.1
    (λ line beyond. looked line (omega (arith, starts, ends, beyond)) ∙ ap (λ b. cond b (Some (before, s)) (later line)) (is_beyond line s.last beyond)))

-- each stanza of a text is found by its lines
pub stanzas_found : (text : List ℕ) → All (IsFound (stanzas_of (read_lines text))) (with_earlier [] (stanzas_of (read_lines text)))
stanzas_found text =
    each-found (stanzas_of (read_lines text)) 0 [] (stanzas_of (read_lines text))
    (stanzas-above 0 (slice_split is_blank_line (read_lines text)) (parts-above is_blank_line 0 (read_lines text) (above-read text)))
    (λ line below. refl)

is_itself : (n : ℕ) → (n == n) ≡ true
is_itself n = grind (arith, nat_tests)

is_other : (m n : ℕ) → m < n → (m == n) ≡ false
is_other m n below = grind (arith, nat_tests)

-- each property of a stanza is found by its line
abbrev pub IsFoundBy : PlainStanza → List PlainProperty × PlainProperty → Type 0
IsFoundBy s x = property_on x.1.line s ≡ Some x

each_property : (s : PlainStanza) (n : ℕ) (before ps : List PlainProperty) → PropertiesAbove n ps
    → ((line : ℕ) → n < line → property_on line s ≡ find (λ x. x.1.line == line) (with_earlier before ps))
    → All (IsFoundBy s) (with_earlier before ps)
each_property s n before [] a looked = All-nil (IsFoundBy s)
each_property s n before (p ∷ ps) a looked =
    let starts : n < p.line = a.0 in
    let later : ℕ → Option (List PlainProperty × PlainProperty) = λ line. find (λ x. x.1.line == line) (with_earlier (before ++ p ∷ []) ps) in
    All-cons (IsFoundBy s) (before, p) (with_earlier (before ++ p ∷ []) ps)
    (looked p.line starts ∙ ap (λ b. cond b (Some (before, p)) (later p.line)) (is_itself p.line))
    (each_property s p.line (before ++ p ∷ []) ps a.1
    (λ line beyond. looked line (omega (arith, starts, beyond)) ∙ ap (λ b. cond b (Some (before, p)) (later line)) (is_other p.line line beyond)))

pub properties_found : (s : PlainStanza) → IsOrdered s → All (IsFoundBy s) (with_earlier [] s.properties)
properties_found s ordered = each_property s 0 [] s.properties ordered.above (λ line below. refl)
