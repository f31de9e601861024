-- What a document says beside its first fault, as it is found while the stanzas are read.
use Rattle.std.proofs.Common.{◌≡◌, ℕ, ◌==◌, nat_le, Bool, true, false, not, List, [], ◌∷◌, ◌++◌, ◌+◌, map, Option, Some, None, Result, Ok, Err, IfOk, find, bytes_eq, refl, sym, ap, ◌∙◌, if◌then◌else◌, option_map, option_and_then}
use Rattle.std.proofs.lemmas.List.Folds.{find-append}
use Rattle.std.specs.List.{list_any}
use mathlib.Core.List.{map-map}
use Rattle.std.specs.Option.{option_or, option_map_or}
use Rattle.std.specs.Str.{IsUtf8, is_utf8}
use Rattle.std.proofs.lemmas.Str.{IsUtf8-from_is_utf8, is_utf8-from_IsUtf8}
use Rattle.cudf_text.specs.Chars.{trim}
use Rattle.cudf_text.specs.declared.fault.Fault.{Fault}
use Rattle.cudf_text.specs.declared.fault.Kind.{Kind}
use Rattle.cudf_text.specs.declared.fault.Kind.TheVariants.{E4, E6, E7, E8, E9, E10, E11, E14, E15, E16}
use Rattle.cudf_text.specs.Stanzas.{PlainProperty, PlainStanza, PlainText}
use Rattle.cudf_value.specs.Spots.{pieces}
use Rattle.cudf_value.specs.Declarations.{PlainDeclaration, declaration}
use Rattle.cudf_value.specs.Parts.{look_up}
use Rattle.cudf_value.specs.Types.{PlainType}
use Rattle.cudf_value.specs.Misfits.{type_word}
use Rattle.cudf_problem.specs.declared.problem.Postmark.TheVariants.{Package}
use Rattle.cudf_problem.specs.declared.problem.Mode.TheVariants.{Strict}
use Rattle.cudf_document.specs.declared.details.StanzasBefore.{StanzasBefore}
use Rattle.cudf_document.specs.Details.{PlainDetail, request_on, package_on, undeclared, misdeclared, lacking, misplaced, stanza_on, property_on, words, bad_piece, package_detail, repeated_detail, misdeclared_detail, property_detail, stanza_detail, text_detail, byte_detail, source_detail, fault_detail}
use Rattle.cudf_problem.specs.Documents.{is_empty, with_earlier, is_request, has_name}
use Rattle.cudf_problem.specs.Ids.{Id, id_of, is_known}
use Rattle.cudf_problem.specs.Preamble.{is_declarable, declared_after, declared}
use Rattle.cudf_document.specs.ProblemFaults.{required_names}
use Rattle.cudf_document.specs.Working.SeenNames.{AreNames}
use Rattle.cudf_document.specs.Working.Details.{nothing_passed, passed_with, passed_of, found_in, property_at, misdeclared_in, package_words, mistyped_after, lacking_after, is_of_pair, is_of_stanza, found_detail, pair_line}
use Rattle.cudf_document.specs.Working.Judging.{added_by}
use Rattle.cudf_problem.proofs.ListLemmas.{is_empty-push, option_map-option_map}
use Rattle.cudf_document.proofs.NameLemmas.{any_named}
use Rattle.cudf_document.proofs.PreambleLemmas.{declared_after-push}

-- ---- lists and options

-- what is found after those before it, without these
find_later : {A : Type 0} (test : A → Bool) (before xs : List A) → option_map (λ q. q.1) (find (λ q. test q.1) (with_earlier before xs)) ≡ find test xs
find_later test before [] = refl
find_later {A} test before (x ∷ xs) = by (test x) (find_later test (before ++ x ∷ []) xs)
  where
    by : (b : Bool) → option_map (λ q. q.1) (find (λ q. test q.1) (with_earlier (before ++ x ∷ []) xs)) ≡ find test xs
        → option_map (λ q. q.1) (if b then Some (before, x) else find (λ q. test q.1) (with_earlier (before ++ x ∷ []) xs)) ≡ (if b then Some x else find test xs)
    by true rest = refl
    by false rest = rest

-- what doesn't look at those before it
through : {A B : Type 0} (F : List A × A → Option B) (G : A → Option B) → ((earlier : List A) (x : A) → F (earlier, x) ≡ G x)
    → (q : Option (List A × A)) → option_and_then F q ≡ option_and_then G (option_map (λ r. r.1) q)
through F G same None = refl
through F G same (Some (earlier, x)) = same earlier x

then_some : {A B : Type 0} (f : A → B) (x : Option A) → option_and_then (λ y. Some (f y)) x ≡ option_map f x
then_some f None = refl
then_some f (Some y) = refl

map_or : {A B : Type 0} (f : A → B) (x y : Option A) → option_map f (option_or x y) ≡ option_or (option_map f x) (option_map f y)
map_or f None y = refl
map_or f (Some x) y = refl

-- ---- the walk to a stanza

line_if : (s : PlainStanza) (b : Bool) → (if b then Some s.line else None) ≡ option_map (λ t. t.line) (if b then Some s else None)
line_if s true = refl
line_if s false = refl

declared_next : (before : List PlainStanza) (s : PlainStanza) → (if is_empty before then declared (s ∷ []) else declared before) ≡ declared (before ++ s ∷ [])
declared_next [] s = refl
declared_next (t ∷ before) s = refl

-- what was passed, and one stanza more
passed_next : (before : List PlainStanza) (s : PlainStanza) → passed_with (passed_of before) s ≡ passed_of (before ++ s ∷ [])
passed_next before s =
    let first = sym (is_empty-push before s) in
    let request = ap (option_or (option_map (λ t. t.line) (find is_request before))) (line_if s (is_request s))
    ∙ sym (map_or (λ t. t.line) (find is_request before) (find is_request (s ∷ [])))
    ∙ ap (option_map (λ t. t.line)) (sym (find-append is_request before (s ∷ []))) in
    let declarations = declared_next before s in
    λ i. let p : StanzasBefore = record { is_first = first i; request = request i; declarations = declarations i } in p

found_in-is : (line : ℕ) (before ss : List PlainStanza)
    → found_in (passed_of before) line ss ≡ option_map (λ q. (passed_of q.0, q.1)) (find (λ q. nat_le line q.1.last) (with_earlier before ss))
found_in-is line before [] = refl
found_in-is line before (s ∷ ss) = by (nat_le line s.last) (ap (λ p. found_in p line ss) (passed_next before s) ∙ found_in-is line (before ++ s ∷ []) ss)
  where
    by : (b : Bool) → found_in (passed_with (passed_of before) s) line ss ≡ option_map (λ q. (passed_of q.0, q.1)) (find (λ q. nat_le line q.1.last) (with_earlier (before ++ s ∷ []) ss))
        → (if b then Some (passed_of before, s) else found_in (passed_with (passed_of before) s) line ss)
        ≡ option_map (λ q. (passed_of q.0, q.1)) (if b then Some (before, s) else find (λ q. nat_le line q.1.last) (with_earlier (before ++ s ∷ []) ss))
    by true rest = refl
    by false rest = rest

-- the stanza alone
found_stanza : (line : ℕ) (p : StanzasBefore) (ss : List PlainStanza) → option_map (λ f. f.1) (found_in p line ss) ≡ find (λ s. nat_le line s.last) ss
found_stanza line p [] = refl
found_stanza line p (s ∷ ss) = by (nat_le line s.last) (found_stanza line (passed_with p s) ss)
  where
    by : (b : Bool) → option_map (λ f. f.1) (found_in (passed_with p s) line ss) ≡ find (λ t. nat_le line t.last) ss
        → option_map (λ f. f.1) (if b then Some (p, s) else found_in (passed_with p s) line ss) ≡ (if b then Some s else find (λ t. nat_le line t.last) ss)
    by true rest = refl
    by false rest = rest

-- ---- kinds

property_at-is : (line : ℕ) (s : PlainStanza) → option_map (λ q. q.1) (property_on line s) ≡ property_at line s
property_at-is line s = find_later (λ p. p.line == line) [] s.properties

misdeclared_in-is : (F : List PlainProperty × PlainProperty → Option PlainDetail) → ((earlier : List PlainProperty) (p : PlainProperty) → F (earlier, p) ≡ misdeclared_detail earlier p)
    → (line : ℕ) (before ps : List PlainProperty)
    → option_and_then F (find (λ q. q.1.line == line) (with_earlier before ps)) ≡ option_map misdeclared (misdeclared_in (declared_after [] before) line ps)
misdeclared_in-is F same line before [] = refl
misdeclared_in-is F same line before (p ∷ ps) = by (p.line == line) (misdeclared_in-is F same line (before ++ p ∷ []) ps)
  where
    by : (b : Bool) → option_and_then F (find (λ q. q.1.line == line) (with_earlier (before ++ p ∷ []) ps)) ≡ option_map misdeclared (misdeclared_in (declared_after [] (before ++ p ∷ [])) line ps)
        → option_and_then F (if b then Some (before, p) else find (λ q. q.1.line == line) (with_earlier (before ++ p ∷ []) ps))
        ≡ option_map misdeclared (if b then option_and_then (bad_piece 1 (declared_after [] before)) (pieces (trim p.value))
        else misdeclared_in (declared_after [] before ++ added_by (declared_after [] before) p) line ps)
    by true rest = same before p
    by false rest = rest ∙ ap (λ ds. option_map misdeclared (misdeclared_in ds line ps)) (declared_after-push [] before p)

of_stanza : (kind : Kind) (line : ℕ) (before : List PlainStanza) (s : PlainStanza) → is_of_stanza kind ≡ true
    → stanza_detail kind line (before, s) ≡ found_detail kind line (passed_of before, s)
of_stanza E4 line before s h = refl
of_stanza E6 line before s h = sym (option_map-option_map request_on (λ t. t.line) (find is_request before))
of_stanza E7 line before s h =
    through (property_detail E7 (before, s)) (repeated_detail s) (λ earlier p. refl) (property_on line s) ∙ ap (option_and_then (repeated_detail s)) (property_at-is line s)
of_stanza E8 line before s h =
    through (property_detail E8 (before, s)) (λ p. Some (undeclared p.name)) (λ earlier p. refl) (property_on line s)
    ∙ ap (option_and_then (λ p. Some (undeclared p.name))) (property_at-is line s) ∙ then_some (λ p. undeclared p.name) (property_at line s)
of_stanza E9 line before s h =
    through (property_detail E9 (before, s)) (mistyped_after (declared before) s) (λ earlier p. refl) (property_on line s)
    ∙ ap (option_and_then (mistyped_after (declared before) s)) (property_at-is line s)
of_stanza E10 line before s h = misdeclared_in-is (property_detail E10 (before, s)) (λ earlier p. refl) line [] s.properties
of_stanza E14 line before s h = refl
of_stanza E16 line before s h =
    through (property_detail E16 (before, s)) (λ p. Some (misplaced p.name)) (λ earlier p. refl) (property_on line s)
    ∙ ap (option_and_then (λ p. Some (misplaced p.name))) (property_at-is line s) ∙ then_some (λ p. misplaced p.name) (property_at line s)
of_stanza _ line before s h = absurd cc

of_pair : (kind : Kind) (line : ℕ) (before : List PlainStanza) (s : PlainStanza) → is_of_pair kind ≡ true
    → stanza_detail kind line (before, s) ≡ option_and_then (package_detail before) (id_of s)
of_pair E11 line before s h = refl
of_pair E15 line before s h = refl
of_pair _ line before s h = absurd cc

of_none : (kind : Kind) (line : ℕ) (before : List PlainStanza) (s : PlainStanza) → is_of_pair kind ≡ false → is_of_stanza kind ≡ false
    → stanza_detail kind line (before, s) ≡ None
of_none E4 line before s h k = absurd cc
of_none E6 line before s h k = absurd cc
of_none E7 line before s h k = absurd cc
of_none E8 line before s h k = absurd cc
of_none E9 line before s h k = absurd cc
of_none E10 line before s h k = absurd cc
of_none E11 line before s h k = absurd cc
of_none E14 line before s h k = absurd cc
of_none E15 line before s h k = absurd cc
of_none E16 line before s h k = absurd cc
of_none kind line before s h k = none (property_on line s)
  where
    none : (x : Option (List PlainProperty × PlainProperty)) → ◌≡◌ {A = Option PlainDetail} (option_and_then (λ r. None) x) None
    none None = refl
    none (Some r) = refl

-- ---- of a text

-- what is said of the stanza that is found
pub found_fault : (text : PlainText) (f : Fault) → is_of_stanza f.kind ≡ true
    → option_and_then (found_detail f.kind f.line) (found_in nothing_passed f.line text.stanzas) ≡ text_detail text f
unfolding text_detail
found_fault text f h = ap (option_and_then (found_detail f.kind f.line)) (found_in-is f.line [] text.stanzas) ∙ by (stanza_on f.line text.stanzas)
  where
    by : (x : Option (List PlainStanza × PlainStanza))
        → option_and_then (found_detail f.kind f.line) (option_map (λ q. (passed_of q.0, q.1)) x) ≡ option_and_then (stanza_detail f.kind f.line) x
    by None = refl
    by (Some (before, s)) = sym (of_stanza f.kind f.line before s h)

-- of other kinds nothing
pub no_text_detail : (text : PlainText) (f : Fault) → is_of_pair f.kind ≡ false → is_of_stanza f.kind ≡ false → None ≡ text_detail text f
unfolding text_detail
no_text_detail text f h k = by (stanza_on f.line text.stanzas)
  where
    by : (x : Option (List PlainStanza × PlainStanza)) → None ≡ option_and_then (stanza_detail f.kind f.line) x
    by None = refl
    by (Some (before, s)) = sym (of_none f.kind f.line before s h k)

-- ---- of bytes

pub detail_of-text : (bytes source : List ℕ) (f : Fault) → IsUtf8 bytes → source ≡ bytes → source_detail f.kind source f ≡ fault_detail bytes f
unfolding fault_detail
detail_of-text bytes source f utf8 is =
    ap (λ s. source_detail f.kind s f) is ∙ ap (λ b. if b then source_detail f.kind bytes f else byte_detail f.kind bytes) (sym (is_utf8-from_IsUtf8 bytes utf8))

pub detail_of-bytes : (bytes : List ℕ) (f : Fault) → ¬ (IsUtf8 bytes) → byte_detail f.kind bytes ≡ fault_detail bytes f
unfolding fault_detail
detail_of-bytes bytes f other = by (is_utf8 bytes) refl
  where
    by : (b : Bool) → is_utf8 bytes ≡ b → byte_detail f.kind bytes ≡ (if b then source_detail f.kind bytes f else byte_detail f.kind bytes)
    by true is = absurd (other (IsUtf8-from_is_utf8 bytes is))
    by false is = refl

-- ---- pairs

known_stays : (id : Id) (line : ℕ) (before ss : List PlainStanza) (t : PlainStanza) (q : List PlainStanza × PlainStanza)
    → find (λ s. is_known (id ∷ []) (id_of s)) before ≡ Some t → find (λ r. nat_le line r.1.last) (with_earlier before ss) ≡ Some q
    → find (λ s. is_known (id ∷ []) (id_of s)) q.0 ≡ Some t
known_stays id line before [] t q known found = absurd cc
known_stays id line before (s ∷ ss) t q known found = by (nat_le line s.last) found
    (known_stays id line (before ++ s ∷ []) ss t q
    (find-append (λ u. is_known (id ∷ []) (id_of u)) before (s ∷ []) ∙ ap (λ x. option_or x (find (λ u. is_known (id ∷ []) (id_of u)) (s ∷ []))) known))
  where
    by : (b : Bool) → (if b then Some (before, s) else find (λ r. nat_le line r.1.last) (with_earlier (before ++ s ∷ []) ss)) ≡ Some q
        → (find (λ r. nat_le line r.1.last) (with_earlier (before ++ s ∷ []) ss) ≡ Some q → find (λ u. is_known (id ∷ []) (id_of u)) q.0 ≡ Some t)
        → find (λ u. is_known (id ∷ []) (id_of u)) q.0 ≡ Some t
    by true here rest = ap (λ b. find (λ u. is_known (id ∷ []) (id_of u)) b) (sym (ap (λ o. option_map_or (λ (r : List PlainStanza × PlainStanza). r.0) o []) here)) ∙ known
    by false later rest = rest later

pair_line-is : (id : Id) (line : ℕ) (before ss : List PlainStanza) (q : List PlainStanza × PlainStanza)
    → find (λ s. is_known (id ∷ []) (id_of s)) before ≡ None → find (λ r. nat_le line r.1.last) (with_earlier before ss) ≡ Some q
    → pair_line id line ss ≡ option_map (λ s. s.line) (find (λ s. is_known (id ∷ []) (id_of s)) q.0)
pair_line-is id line before [] q none found = absurd cc
pair_line-is id line before (s ∷ ss) q none found = by (nat_le line s.last) (is_known (id ∷ []) (id_of s)) refl found (pair_line-is id line (before ++ s ∷ []) ss q)
  where
    next : (k : Bool) → is_known (id ∷ []) (id_of s) ≡ k → find (λ u. is_known (id ∷ []) (id_of u)) (before ++ s ∷ []) ≡ (if k then Some s else None)
    next k known = find-append (λ u. is_known (id ∷ []) (id_of u)) before (s ∷ []) ∙ (λ i. option_or (none i) (if known i then Some s else None))

    by : (b k : Bool) → is_known (id ∷ []) (id_of s) ≡ k
        → (if b then Some (before, s) else find (λ r. nat_le line r.1.last) (with_earlier (before ++ s ∷ []) ss)) ≡ Some q
        → (find (λ u. is_known (id ∷ []) (id_of u)) (before ++ s ∷ []) ≡ None → find (λ r. nat_le line r.1.last) (with_earlier (before ++ s ∷ []) ss) ≡ Some q
        → pair_line id line ss ≡ option_map (λ u. u.line) (find (λ u. is_known (id ∷ []) (id_of u)) q.0))
        → (if b then None else (if k then Some s.line else pair_line id line ss)) ≡ option_map (λ u. u.line) (find (λ u. is_known (id ∷ []) (id_of u)) q.0)
    by true k known here rest =
        sym (ap (option_map (λ u. u.line)) none)
        ∙ ap (λ b. option_map (λ u. u.line) (find (λ u. is_known (id ∷ []) (id_of u)) b)) (ap (λ o. option_map_or (λ (r : List PlainStanza × PlainStanza). r.0) o []) here)
    by false true known later rest = sym (ap (option_map (λ u. u.line)) (known_stays id line (before ++ s ∷ []) ss s q (next true known) later))
    by false false known later rest = rest (next false known) later

pub pair_fault : (text : PlainText) (f : Fault) → is_of_pair f.kind ≡ true
    → option_and_then (λ id. option_map (λ n. package_on id.0 id.1 n) (pair_line id f.line text.stanzas)) (option_and_then id_of (find (λ s. nat_le f.line s.last) text.stanzas))
    ≡ text_detail text f
unfolding text_detail
pair_fault text f h =
    ap (λ x. option_and_then (λ id. option_map (λ n. package_on id.0 id.1 n) (pair_line id f.line text.stanzas)) (option_and_then id_of x))
    (sym (find_later (λ s. nat_le f.line s.last) [] text.stanzas))
    ∙ by (stanza_on f.line text.stanzas) refl
  where
    at : (before : List PlainStanza) (s : PlainStanza) → stanza_on f.line text.stanzas ≡ Some (before, s) → (id : Option Id)
        → option_and_then (λ i. option_map (λ n. package_on i.0 i.1 n) (pair_line i f.line text.stanzas)) id ≡ option_and_then (package_detail before) id
    at before s on None = refl
    at before s on (Some id) =
        ap (option_map (λ n. package_on id.0 id.1 n)) (pair_line-is id f.line [] text.stanzas (before, s) refl on)
        ∙ option_map-option_map (λ n. package_on id.0 id.1 n) (λ u. u.line) (find (λ u. is_known (id ∷ []) (id_of u)) before)

    by : (x : Option (List PlainStanza × PlainStanza)) → stanza_on f.line text.stanzas ≡ x
        → option_and_then (λ id. option_map (λ n. package_on id.0 id.1 n) (pair_line id f.line text.stanzas)) (option_and_then id_of (option_map (λ q. q.1) x))
        ≡ option_and_then (stanza_detail f.kind f.line) x
    by None on = refl
    by (Some (before, s)) on = at before s on (id_of s) ∙ sym (of_pair f.kind f.line before s h)

-- the pair of the stanza that is found
pub pair_found : (line : ℕ) (ss : List PlainStanza) (x : Option (StanzasBefore × PlainStanza)) → x ≡ found_in nothing_passed line ss
    → option_and_then (λ f. id_of f.1) x ≡ option_and_then id_of (find (λ s. nat_le line s.last) ss)
pair_found line ss x found = by x ∙ ap (λ y. option_and_then id_of (option_map (λ f. f.1) y)) found ∙ ap (option_and_then id_of) (found_stanza line nothing_passed ss)
  where
    by : (y : Option (StanzasBefore × PlainStanza)) → option_and_then (λ f. id_of f.1) y ≡ option_and_then id_of (option_map (λ f. f.1) y)
    by None = refl
    by (Some f) = refl

-- ---- what a package lacks

find_unseen : (names : List (List ℕ)) (ps : List PlainProperty) (required : List (List ℕ)) → AreNames names ps
    → find (λ name. not (list_any (bytes_eq name) names)) required ≡ find (λ name. not (list_any (has_name name) ps)) required
find_unseen names ps [] are = refl
find_unseen names ps (name ∷ required) are = λ i. if not ((are name ∙ any_named name ps) i) then Some name else find_unseen names ps required are i

pub lacking-is : (ds : List PlainDeclaration) (s : PlainStanza) (names required : List (List ℕ)) (x : Option (List ℕ))
    → required ≡ required_names Strict ds → AreNames names s.properties → x ≡ find (λ name. not (list_any (bytes_eq name) names)) required
    → option_map lacking x ≡ lacking_after ds s
lacking-is ds s names required x required_are are found =
    ap (option_map lacking) (found ∙ find_unseen names s.properties required are ∙ ap (find (λ name. not (list_any (has_name name) s.properties))) required_are)

-- ---- declarations

-- a piece that is a declaration, after which the others are looked at, or which is the bad one
pub piece_is : {E : Type 0} (r : Result Bool E) (old new : List PlainDeclaration) (d : PlainDeclaration) (piece : List ℕ) → declaration (trim piece) ≡ Some d
    → IfOk r (λ g. g ≡ is_declarable (old, d)) → IfOk r (λ g. new ≡ (if g then old ++ d ∷ [] else old))
    → IfOk r (λ g. (n : ℕ) → (later : List (List ℕ)) → bad_piece n old (piece ∷ later) ≡ (if g then bad_piece (n + 1) new later else Some n))
piece_is (Err e) old new d piece read is added = tt
piece_is (Ok g) old new d piece read is added = λ n later.
    ap (λ x. option_map_or (λ e. if is_declarable (old, e) then bad_piece (n + 1) (old ++ e ∷ []) later else Some n) x (Some n)) read
    ∙ ap (λ b. if b then bad_piece (n + 1) (old ++ d ∷ []) later else Some n) (sym is) ∙ by g added n later
  where
    by : (b : Bool) → new ≡ (if b then old ++ d ∷ [] else old) → (n : ℕ) → (later : List (List ℕ))
        → (if b then bad_piece (n + 1) (old ++ d ∷ []) later else Some n) ≡ (if b then bad_piece (n + 1) new later else Some n)
    by true is n later = ap (λ ds. bad_piece (n + 1) ds later) (sym is)
    by false is n later = refl

-- ---- types

look_up-append : {A : Type 0} (name : List ℕ) (xs ys : List (List ℕ × A)) → look_up name (xs ++ ys) ≡ option_or (look_up name xs) (look_up name ys)
look_up-append name [] ys = refl
look_up-append {A} name (x ∷ xs) ys = by (bytes_eq name x.0) (look_up-append name xs ys)
  where
    by : (b : Bool) → look_up name (xs ++ ys) ≡ option_or (look_up name xs) (look_up name ys)
        → (if b then Some x.1 else look_up name (xs ++ ys)) ≡ option_or (if b then Some x.1 else look_up name xs) (look_up name ys)
    by true rest = refl
    by false rest = rest

word_of-declared : (name : List ℕ) (ds : List PlainDeclaration)
    → look_up name (map (λ d. (d.name, type_word d.kind)) ds) ≡ option_map type_word (option_map (λ d. d.kind) (find (λ d. bytes_eq name d.name) ds))
word_of-declared name [] = refl
word_of-declared name (d ∷ ds) = by (bytes_eq name d.name) (word_of-declared name ds)
  where
    by : (b : Bool) → look_up name (map (λ e. (e.name, type_word e.kind)) ds) ≡ option_map type_word (option_map (λ e. e.kind) (find (λ e. bytes_eq name e.name) ds))
        → (if b then Some (type_word d.kind) else look_up name (map (λ e. (e.name, type_word e.kind)) ds))
        ≡ option_map type_word (option_map (λ e. e.kind) (if b then Some d else find (λ e. bytes_eq name e.name) ds))
    by true rest = refl
    by false rest = rest

words_are : (ds : List PlainDeclaration) → words ds (Some Package) ≡ package_words ++ map (λ d. (d.name, type_word d.kind)) ds
words_are ds = ap (λ rows. package_words ++ rows) (map-map (λ known. (known.0, type_word known.1)) (λ d. (d.name, d.kind)) ds)

-- the word of the type of a name that each package knows
pub known_word : (name : List ℕ) (ds : List PlainDeclaration) (word : List ℕ) → Some word ≡ look_up name package_words → Some word ≡ look_up name (words ds (Some Package))
known_word name ds word known =
    sym (ap (look_up name) (words_are ds) ∙ look_up-append name package_words (map (λ d. (d.name, type_word d.kind)) ds)
    ∙ ap (λ x. option_or x (look_up name (map (λ d. (d.name, type_word d.kind)) ds))) (sym known))

-- and of another
pub declared_word : (name : List ℕ) (ds : List PlainDeclaration) (kind : Option PlainType) → None ≡ look_up name package_words
    → kind ≡ option_map (λ d. d.kind) (find (λ d. bytes_eq name d.name) ds) → option_map type_word kind ≡ look_up name (words ds (Some Package))
declared_word name ds kind unknown is =
    ap (option_map type_word) is ∙ sym (word_of-declared name ds)
    ∙ ap (λ x. option_or x (look_up name (map (λ d. (d.name, type_word d.kind)) ds))) unknown
    ∙ sym (ap (look_up name) (words_are ds) ∙ look_up-append name package_words (map (λ d. (d.name, type_word d.kind)) ds))
