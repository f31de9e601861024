-- What is tracked of a text is what it says, and which of its values are joined.
use Rattle.std.proofs.Common.{◌≡◌, ℕ, false, List, [], ◌∷◌, ◌++◌, length, map, Option, refl, subst, sym, ◌∙◌, ap}
use Rattle.std.specs.List.{filter_map, cons_option, slice_split, onto_first, flat_map}
use Rattle.cudf_text.specs.declared.fault.Fault.{Fault}
use Rattle.cudf_text.specs.declared.text.Property.{Property}
use Rattle.cudf_text.specs.declared.text.Stanza.{Stanza}
use Rattle.std.proofs.lemmas.List.{append_assoc, append-nil, map-append}
use Rattle.std.proofs.lemmas.Grind.{flat_map-append}
use Rattle.cudf_text.specs.declared.text.PropertyRef.{PropertyRef}
use Rattle.cudf_text.specs.Promises.Cursor.{with_next}
use Rattle.cudf_text.specs.declared.cursor.Next.{Next}
use Rattle.cudf_text.specs.declared.cursor.Next.TheVariants as next
use Rattle.cudf_text.specs.Promises.Borrows.{is_joined, joins, joined_values}
use Rattle.cudf_text.specs.Lines.{is_blank_line, Class, blank, continuation, named, NumberedLine, lines, judged_lines}
use Rattle.cudf_text.specs.Stanzas.{PlainProperty, PlainStanza, PlainText, continuations, last_number, plain_text}
use Rattle.cudf_text.specs.Stanzas as plain
use Rattle.cudf_text.specs.Promises.Views.{own_property_view, own_stanza_view, owned_in, property_view}
use Rattle.cudf_text.specs.Working.Left.{with_tracked}
use Rattle.cudf_text.specs.Working.Reading.{read_after}
use Rattle.cudf_text.specs.Working.Tracked.{TrackedProperty, TrackedStanza, TrackedText, properties, stanza_with, stanza_of, plain_property, plain_stanza, plain_with, plain_of, joins_of, owned_of, tracked_properties, tracked_property, whole}
use Rattle.cudf_text.proofs.OrderLemmas.{first_fault-is, read_lines-is}

-- ---- what it says

plain-properties : (ls : List NumberedLine) → map plain_property (properties ls) ≡ plain.properties ls
plain-properties [] = refl
plain-properties ((n, named name text) ∷ ls) =
    ap (λ ps. let p : PlainProperty = record { line = n; name = name; value = plain.joined (text ∷ continuations ls) } in p ∷ ps) (plain-properties ls)
plain-properties ((n, _) ∷ ls) = plain-properties ls

plain-one : (last : ℕ) (ps : List TrackedProperty) (rest : List TrackedStanza)
    → map plain_stanza (cons_option (stanza_with last ps) rest) ≡ cons_option (plain_with last (map plain_property ps)) (map plain_stanza rest)
plain-one last [] rest = refl
plain-one last (p ∷ ps) rest = refl

plain-stanzas : (parts : List (List NumberedLine)) → map plain_stanza (filter_map stanza_of parts) ≡ filter_map plain.stanza_of parts
plain-stanzas [] = refl
plain-stanzas (part ∷ parts) =
    plain-one (last_number part) (properties part) (filter_map stanza_of parts)
    ∙ ap (λ ps. cons_option (plain_with (last_number part) ps) (map plain_stanza (filter_map stanza_of parts))) (plain-properties part)
    ∙ ap (cons_option (plain.stanza_of part)) (plain-stanzas parts)

-- ---- which values are joined

owned-properties : (ls : List NumberedLine) → owned_of (properties ls) ≡ joins ls
owned-properties [] = refl
owned-properties ((n, named name text) ∷ ls) = ap (λ bs. is_joined (text ∷ continuations ls) ∷ bs) (owned-properties ls)
owned-properties ((n, _) ∷ ls) = owned-properties ls

owned-one : (last : ℕ) (ps : List TrackedProperty) (rest : List TrackedStanza)
    → flat_map (λ s. owned_of s.properties) (cons_option (stanza_with last ps) rest) ≡ owned_of ps ++ flat_map (λ s. owned_of s.properties) rest
owned-one last [] rest = refl
owned-one last (p ∷ ps) rest = refl

owned-stanzas : (parts : List (List NumberedLine)) → flat_map (λ s. owned_of s.properties) (filter_map stanza_of parts) ≡ flat_map joins parts
owned-stanzas [] = refl
owned-stanzas (part ∷ parts) =
    owned-one (last_number part) (properties part) (filter_map stanza_of parts)
    ∙ ap (λ bs. bs ++ flat_map (λ s. owned_of s.properties) (filter_map stanza_of parts)) (owned-properties part)
    ∙ ap (λ bs. joins part ++ bs) (owned-stanzas parts)

-- what follows a blank line doesn't change what is before it
abbrev JoinsIn : List NumberedLine → List (List NumberedLine) → Type 0
JoinsIn ls [] = ⊥
JoinsIn ls (part ∷ parts) = (joins ls ≡ joins part ++ flat_map joins parts) × (continuations ls ≡ continuations part)

joins_onto : (n : ℕ) (c : Class) (ls : List NumberedLine) (parts : List (List NumberedLine)) → is_blank_line (n, c) ≡ false
    → JoinsIn ls parts → JoinsIn ((n, c) ∷ ls) (onto_first (n, c) parts)
joins_onto n c ls [] other is = absurd is
joins_onto n (named name text) ls (part ∷ parts) other is =
    let e = is.1 in
    (rw e (ap (λ bs. is_joined (text ∷ continuations part) ∷ bs) is.0), refl)
joins_onto n (continuation text) ls (part ∷ parts) other is = (is.0, ap (λ texts. text ∷ texts) is.1)
joins_onto n blank ls (part ∷ parts) other is = absurd cc
joins_onto n _ ls (part ∷ parts) other is = (is.0, refl)

after_blank : (n : ℕ) (ls : List NumberedLine) (parts : List (List NumberedLine)) → JoinsIn ls parts → JoinsIn ((n, blank) ∷ ls) ([] ∷ parts)
after_blank n ls [] is = absurd is
after_blank n ls (part ∷ parts) is = (is.0, refl)

joins_in : (ls : List NumberedLine) → JoinsIn ls (slice_split is_blank_line ls)
joins_in [] = (refl, refl)
joins_in ((n, blank) ∷ ls) = after_blank n ls _ (joins_in ls)
joins_in ((n, c) ∷ ls) = joins_onto n c ls _ refl (joins_in ls)

joins_all : (ls : List NumberedLine) (parts : List (List NumberedLine)) → JoinsIn ls parts → flat_map joins parts ≡ joins ls
joins_all ls [] is = absurd is
joins_all ls (part ∷ parts) is = sym is.0

-- ---- a whole text

pub whole_plain : (text : List ℕ) → plain_of (whole text) ≡ plain_text text
unfolding plain_text
whole_plain text = λ i. let t : PlainText = record {
  stanzas = (plain-stanzas (slice_split is_blank_line (read_after blank (judged_lines text))) ∙ ap plain.stanzas_of (sym (read_lines-is text))) i;
  fault = sym (first_fault-is text) i;
  lines = length (lines text);
} in t

pub whole_joins : (text : List ℕ) → joins_of (whole text) ≡ joined_values text
unfolding joined_values
whole_joins text =
    let ls = read_after blank (judged_lines text) in
    owned-stanzas (slice_split is_blank_line ls) ∙ joins_all ls _ (joins_in ls) ∙ ap joins (sym (read_lines-is text))

-- ---- one stanza more

plain-tracked : (ps : List Property) → map plain_property (map tracked_property ps) ≡ map own_property_view ps
plain-tracked [] = refl
plain-tracked (p ∷ ps) = ap (λ qs. own_property_view p ∷ qs) (plain-tracked ps)

owned-tracked : (ps : List Property) → owned_of (map tracked_property ps) ≡ owned_in ps
owned-tracked [] = refl
owned-tracked (p ∷ ps) = ap (λ bs. owned_in (p ∷ []) ++ bs) (owned-tracked ps)

plain-parts : (parts : List PropertyRef) (others : List Property)
    → map plain_property (tracked_properties parts others) ≡ map property_view parts ++ map own_property_view others
plain-parts [] others = plain-tracked others
plain-parts (p ∷ parts) others = ap (λ qs. property_view p ∷ qs) (plain-parts parts others)

pub plain-next : (n : Next) (parts : List PropertyRef) (others : List Property) (qs : List PropertyRef) (left : TrackedText)
    → map property_view qs ≡ map property_view parts ++ map own_property_view others
    → plain_of (with_tracked n (tracked_properties parts others) left) ≡ with_next n qs (plain_of left)
plain-next (next.Stanza line last) parts others qs left e = λ i. let t : PlainText = record {
  stanzas = record { line = line; last = last; properties = (plain-parts parts others ∙ sym e) i } ∷ map plain_stanza left.stanzas;
  fault = left.fault;
  lines = left.lines;
} in t
plain-next (next.End fault lines) parts others qs left e = refl

-- where nothing was read, nothing is kept
pub nothing_kept : (parts : List PropertyRef) (others : List Property) (kept : List PropertyRef) → tracked_properties parts others ≡ []
    → map property_view kept ≡ map property_view parts ++ map own_property_view others → kept ≡ []
nothing_kept parts others [] none e = refl
nothing_kept [] [] (p ∷ kept) none e = absurd cc
nothing_kept [] (q ∷ others) (p ∷ kept) none e = absurd cc
nothing_kept (q ∷ parts) others (p ∷ kept) none e = absurd cc

-- ---- stanzas that are held, and what is left after them

pub record IsHeld (source : List ℕ) (stanzas : List Stanza) (left : TrackedText) : Type 0 where
  pub text : ◌≡◌ {A = PlainText} (record (plain_of left) { stanzas = map own_stanza_view stanzas ++ map plain_stanza left.stanzas }) (plain_text source)
  pub joins : flat_map (λ s. owned_in s.properties.items) stanzas ++ joins_of left ≡ joined_values source

pub IsHeld-next : (source : List ℕ) (old new : List Stanza) (s : Stanza) (left behind : TrackedText) → IsHeld source old left
    → left ≡ with_tracked (next.Stanza s.line s.last) (map tracked_property s.properties.items) behind → new ≡ old ++ s ∷ [] → IsHeld source new behind
IsHeld-next source old new s left behind held e more = record {
  text =
      let view : own_stanza_view s ≡ record { line = s.line; last = s.last; properties = map plain_property (map tracked_property s.properties.items) } =
      λ i. let q : PlainStanza = record { line = s.line; last = s.last; properties = sym (plain-tracked s.properties.items) i } in q in
      (λ i. let t : PlainText = record (plain_of behind) { stanzas = (ap (map own_stanza_view) more ∙ map-append own_stanza_view old (s ∷ [])) i ++ map plain_stanza behind.stanzas } in t)
      ∙ (λ i. let t : PlainText = record (plain_of behind) { stanzas = append_assoc (map own_stanza_view old) (view i ∷ []) (map plain_stanza behind.stanzas) i } in t)
      ∙ (λ i. let t : PlainText = record (plain_of (sym e i)) { stanzas = map own_stanza_view old ++ map plain_stanza (sym e i).stanzas } in t) ∙ held.text;
  joins = ap (λ ss. flat_map (λ (s : Stanza). owned_in s.properties.items) ss ++ joins_of behind) more
      ∙ ap (λ bs. bs ++ joins_of behind) (flat_map-append (λ (s : Stanza). owned_in s.properties.items) old (s ∷ []))
      ∙ append_assoc (flat_map (λ (s : Stanza). owned_in s.properties.items) old) (owned_in s.properties.items ++ []) (joins_of behind)
      ∙ ap (λ bs. flat_map (λ (s : Stanza). owned_in s.properties.items) old ++ (bs ++ joins_of behind)) (append-nil (owned_in s.properties.items) ∙ sym (owned-tracked s.properties.items))
      ∙ ap (λ (t : TrackedText). flat_map (λ (s : Stanza). owned_in s.properties.items) old ++ joins_of t) (sym e) ∙ held.joins;
}

pub IsHeld-start : (source : List ℕ) (none : List Stanza) (left : TrackedText) → none ≡ [] → left ≡ whole source → IsHeld source none left
IsHeld-start source none left e is = record {
  text = (λ i. let t : PlainText = record (plain_of (is i)) { stanzas = map own_stanza_view (e i) ++ map plain_stanza (is i).stanzas } in t) ∙ whole_plain source;
  joins = (λ i. flat_map (λ (s : Stanza). owned_in s.properties.items) (e i) ++ joins_of (is i)) ∙ whole_joins source;
}

-- nothing is left
module _ (source : List ℕ) (stanzas : List Stanza) (left : TrackedText) (fault : Option Fault) (lines : ℕ) (held : IsHeld source stanzas left)
    (e : left ≡ (let t : TrackedText = record { stanzas = []; fault = fault; lines = lines } in t)) where
  all_held : IsHeld source stanzas (record { stanzas = []; fault = fault; lines = lines })
  all_held = subst (IsHeld source stanzas) e held

  pub text_is : (let t : PlainText = record { stanzas = map own_stanza_view stanzas; fault = fault; lines = lines } in t) ≡ plain_text source
  text_is = (λ i. let t : PlainText = record { stanzas = sym (append-nil (map own_stanza_view stanzas)) i; fault = fault; lines = lines } in t) ∙ all_held.text

  pub joins_is : flat_map (λ s. owned_in s.properties.items) stanzas ≡ joined_values source
  joins_is = sym (append-nil _) ∙ all_held.joins
