-- What a document says beside its first fault: own.
use Rattle.std.specs.Prelude.{ℕ, ◌+◌, ◌-◌, ◌==◌, nat_eq, nat_le, not, List, [], ◌∷◌, ◌++◌, length, map, find, take, slice_get, slice_index, Option, Some, None, option_map, option_and_then, unwrap_or, codes, if◌then◌else◌}
use Rattle.std.specs.List.{list_any, starts_with, suffix_len}
use Rattle.std.specs.Option.{option_map_or}
use Rattle.std.specs.Str.{byte, is_utf8}
use Rattle.std.specs.Str.Lossy.{utf8_valid_len}
use Rattle.cudf_text.specs.Chars.{trim}
use Rattle.cudf_text.specs.Lines.{is_lf, lines}
use Rattle.cudf_text.specs.declared.fault.Fault.{Fault}
use Rattle.cudf_text.specs.declared.fault.Kind.{Kind}
use Rattle.cudf_text.specs.declared.fault.Kind.TheVariants.{E1, E2, E4, E6, E7, E8, E9, E10, E11, E13, E14, E15, E16}
use Rattle.cudf_text.specs.Stanzas.{PlainProperty, PlainStanza, PlainText, plain_text}
use Rattle.cudf_value.specs.Parts.{look_up, parts}
use Rattle.cudf_value.specs.Misfits.{type_word, misfit}
use Rattle.cudf_value.specs.Spots.{pieces}
use Rattle.cudf_value.specs.Declarations.{PlainDeclaration, declaration}
use Rattle.cudf_problem.specs.declared.problem.Mode.TheVariants.{Strict}
use Rattle.cudf_problem.specs.declared.problem.Postmark.{Postmark}
use Rattle.cudf_problem.specs.Documents.{with_earlier, postmark, is_request, has_name}
use Rattle.cudf_problem.specs.Ids.{Id, id_of, is_known}
use Rattle.cudf_problem.specs.Preamble.{is_declarable, declared_after, declared}
use Rattle.cudf_problem.specs.Universe.{PlainPackage, package_id}
use Rattle.cudf_document.specs.ProblemFaults.{types_in, required_names}
use Rattle.cudf_document.specs.declared.details.Format.{Format}
use Rattle.cudf_document.specs.declared.details.Format.TheVariants.{Gzip, Bzip2, Xz, Zstandard, Utf16}

-- what is said, in plain texts
pub data PlainDetail : Type 0 where
  -- the place of a byte in its line, from 1, and the byte
  invalid_byte : ℕ → ℕ → PlainDetail
  -- the format of a file that is no text
  of_format : Format → PlainDetail
  -- a byte order mark before the first line
  byte_order_mark : PlainDetail
  -- the text of a line, without blanks round it
  line_text : List ℕ → PlainDetail
  -- the document has no byte
  no_bytes : PlainDetail
  -- the name of a stanza's first property
  begins_with : List ℕ → PlainDetail
  -- the line of the request
  request_on : ℕ → PlainDetail
  -- a property's name, and the line of the first of that name in its stanza
  name_on : List ℕ → ℕ → PlainDetail
  -- a name that nothing declares
  undeclared : List ℕ → PlainDetail
  -- a property's name, the word of its type, in a list the number of the first entry that is none, and the text of this entry, or else the value
  mistyped : List ℕ → List ℕ → Option ℕ → List ℕ → PlainDetail
  -- the number of the first declaration that is none, or isn't allowed there
  misdeclared : ℕ → PlainDetail
  -- a package's name, its version, and the line of the first stanza that has them
  package_on : List ℕ → ℕ → ℕ → PlainDetail
  -- the first name that a package has to have, and lacks
  lacking : List ℕ → PlainDetail
  -- a name that has no meaning where it is
  misplaced : List ℕ → PlainDetail

-- ---- bytes that are no text

-- the bytes with which files of some formats begin
abbrev pub signatures : List (List ℕ × Format)
signatures =
    (0x1F ∷ 0x8B ∷ [], Gzip)
    ∷ (codes "BZh", Bzip2)
    ∷ (0xFD ∷ codes "7zXZ" ++ 0 ∷ [], Xz)
    ∷ (0x28 ∷ 0xB5 ∷ 0x2F ∷ 0xFD ∷ [], Zstandard)
    ∷ (0xFF ∷ 0xFE ∷ [], Utf16)
    ∷ (0xFE ∷ 0xFF ∷ [], Utf16)
    ∷ []

-- the format of a file that begins with these bytes
abbrev pub format_of : List ℕ → Option Format
format_of bytes = option_map (λ s. s.1) (find (λ s. starts_with nat_eq bytes s.0) signatures)

-- how many bytes come after the last LF
abbrev pub last_line_len : List ℕ → ℕ
last_line_len bytes = suffix_len (λ b. not (is_lf b)) bytes

-- the first byte after the longest part of the document that is UTF-8
abbrev pub first_invalid : List ℕ → PlainDetail
first_invalid bytes = let n = utf8_valid_len bytes in invalid_byte (last_line_len (take n bytes) + 1) (slice_index bytes n)

-- E1: the format, or else the byte
abbrev pub invalid_detail : List ℕ → PlainDetail
invalid_detail bytes = option_map_or of_format (format_of bytes) (first_invalid bytes)

-- of bytes that are no text, nothing of another kind
abbrev pub byte_detail : Kind → List ℕ → Option PlainDetail
byte_detail E1 bytes = Some (invalid_detail bytes)
byte_detail kind bytes = None

-- ---- lines that can't be read

-- U+FEFF
abbrev pub mark_bytes : List ℕ
mark_bytes = 0xEF ∷ 0xBB ∷ 0xBF ∷ []

-- of the line of this number that begins with a byte order mark: the mark, where the line is the first
abbrev pub marked_detail : ℕ → Option PlainDetail
marked_detail number = if number == 1 then Some byte_order_mark else None

-- of another: its text, unless that is empty
abbrev pub shown_detail : List ℕ → Option PlainDetail
shown_detail text = if length text == 0 then None else Some (line_text text)

abbrev pub line_detail : ℕ → List ℕ → Option PlainDetail
line_detail number line = if starts_with nat_eq line mark_bytes then marked_detail number else shown_detail (trim line)

-- E2: the text of the line of this number from 1, or the byte order mark
abbrev pub unread_detail : List ℕ → ℕ → Option PlainDetail
unread_detail text number = option_and_then (line_detail number) (slice_get (lines text) (number - 1))

-- E13: that there is no byte
abbrev pub empty_detail : List ℕ → Option PlainDetail
empty_detail text = if length text == 0 then Some no_bytes else None

-- ---- where the fault is

-- the stanza of a line: the first that doesn't end before it, after those before it. It is the one that has the fault of
-- the line (Laws: FaultsAreFound)
abbrev pub stanza_on : ℕ → List PlainStanza → Option (List PlainStanza × PlainStanza)
stanza_on line stanzas = find (λ (before, s). nat_le line s.last) (with_earlier [] stanzas)

-- the property of a line, after those before it in its stanza
abbrev pub property_on : ℕ → PlainStanza → Option (List PlainProperty × PlainProperty)
property_on line s = find (λ (earlier, p). p.line == line) (with_earlier [] s.properties)

-- ---- types

-- the names that are known in a stanza, and the words of their types
abbrev pub words : List PlainDeclaration → Option Postmark → List (List ℕ × List ℕ)
words ds mark = map (λ known. (known.0, type_word known.1)) (types_in ds mark)

-- the entry of this number from 1, without blanks round it, or else the whole value
abbrev pub misfit_text : Option ℕ → List ℕ → List ℕ
misfit_text None value = value
misfit_text (Some n) value = trim (unwrap_or (slice_get (parts (byte ",") value) (n - 1)) [])

-- a property of this name and value isn't of the type of this word
abbrev pub mistyped_as : List ℕ → List ℕ → List ℕ → PlainDetail
mistyped_as name value word = let entry = misfit word (trim value) in mistyped name word entry (misfit_text entry (trim value))

-- ---- declarations

-- counted from n, the first piece that is no declaration, or one that isn't allowed after these and those in the pieces before it
abbrev pub bad_piece : ℕ → List PlainDeclaration → List (List ℕ) → Option ℕ
bad_piece n before [] = None
bad_piece n before (piece ∷ ps) =
    option_map_or (λ d. if is_declarable (before, d) then bad_piece (n + 1) (before ++ d ∷ []) ps else Some n) (declaration (trim piece)) (Some n)

-- ---- what is said of a stanza, after those before it

-- E4: its first property
abbrev pub first_detail : PlainStanza → Option PlainDetail
first_detail s = option_map (λ p. begins_with p.name) (slice_get s.properties 0)

-- E6: the request before it
abbrev pub request_detail : List PlainStanza → Option PlainDetail
request_detail before = option_map (λ s. request_on s.line) (find is_request before)

-- the first package of this name and version
abbrev pub stanza_of : List PlainStanza → Id → Option PlainStanza
stanza_of ss id = find (λ s. is_known (id ∷ []) (id_of s)) ss

-- E11, E15: the first package before it of its name and version
abbrev pub package_detail : List PlainStanza → Id → Option PlainDetail
package_detail before (name, version) = option_map (λ s. package_on name version s.line) (stanza_of before (name, version))

-- E14: the first name that is declared without a default, and that it lacks
abbrev pub lacking_detail : List PlainStanza → PlainStanza → Option PlainDetail
lacking_detail before s = option_map lacking (find (λ name. not (list_any (has_name name) s.properties)) (required_names Strict (declared before)))

-- ---- and of one of its properties, after those before it

-- E7: the first of its name
abbrev pub repeated_detail : PlainStanza → PlainProperty → Option PlainDetail
repeated_detail s p = option_map (λ first. name_on p.name first.line) (find (has_name p.name) s.properties)

-- E9: its type, and the entry
abbrev pub mistyped_detail : List PlainStanza → PlainStanza → PlainProperty → Option PlainDetail
mistyped_detail before s p = option_map (mistyped_as p.name p.value) (look_up p.name (words (declared before) (postmark s)))

-- E10: the declaration; none where quotes or brackets are wrong
abbrev pub misdeclared_detail : List PlainProperty → PlainProperty → Option PlainDetail
misdeclared_detail earlier p = option_map misdeclared (option_and_then (bad_piece 1 (declared_after [] earlier)) (pieces (trim p.value)))

abbrev pub property_detail : Kind → List PlainStanza × PlainStanza → List PlainProperty × PlainProperty → Option PlainDetail
property_detail E7 (before, s) (earlier, p) = repeated_detail s p
property_detail E8 (before, s) (earlier, p) = Some (undeclared p.name)
property_detail E9 (before, s) (earlier, p) = mistyped_detail before s p
property_detail E10 (before, s) (earlier, p) = misdeclared_detail earlier p
property_detail E16 (before, s) (earlier, p) = Some (misplaced p.name)
property_detail kind q r = None

-- ---- and of a fault

abbrev pub stanza_detail : Kind → ℕ → List PlainStanza × PlainStanza → Option PlainDetail
stanza_detail E4 line (before, s) = first_detail s
stanza_detail E6 line (before, s) = request_detail before
stanza_detail E11 line (before, s) = option_and_then (package_detail before) (id_of s)
stanza_detail E14 line (before, s) = lacking_detail before s
stanza_detail E15 line (before, s) = option_and_then (package_detail before) (id_of s)
stanza_detail kind line (before, s) = option_and_then (property_detail kind (before, s)) (property_on line s)

-- ---- where a solution has a package of the problem

-- the line of the first of its stanzas that is of the package's name and version
abbrev pub stanza_line : List PlainStanza → PlainPackage → Option ℕ
stanza_line ss p = option_map (λ s. s.line) (stanza_of ss (package_id p))

-- ---- what is said of a document, whether it is a problem or a solution

-- beside a fault in a stanza; of other kinds nothing
unfoldable pub text_detail : PlainText → Fault → Option PlainDetail
text_detail text f = option_and_then (stanza_detail f.kind f.line) (stanza_on f.line text.stanzas)

-- beside any fault of a text
abbrev pub source_detail : Kind → List ℕ → Fault → Option PlainDetail
source_detail E2 source f = unread_detail source f.line
source_detail E13 source f = empty_detail source
source_detail kind source f = text_detail (plain_text source) f

-- beside any fault of it
unfoldable pub fault_detail : List ℕ → Fault → Option PlainDetail
fault_detail bytes f = if is_utf8 bytes then source_detail f.kind bytes f else byte_detail f.kind bytes
