-- What a document says beside its first fault, while its stanzas are read one after the other.
use Rattle.std.specs.Prelude.{ℕ, ◌==◌, nat_le, Bool, true, false, not, List, [], ◌∷◌, ◌++◌, codes, find, Option, Some, None, option_map, option_and_then, if◌then◌else◌}
use Rattle.std.specs.List.{list_any}
use Rattle.std.specs.Option.{option_or}
use Rattle.cudf_text.specs.Chars.{trim}
use Rattle.cudf_text.specs.declared.fault.Kind.{Kind}
use Rattle.cudf_text.specs.declared.fault.Kind.TheVariants.{E4, E6, E7, E8, E9, E10, E11, E14, E15, E16}
use Rattle.cudf_text.specs.Stanzas.{PlainProperty, PlainStanza}
use Rattle.cudf_text.specs.Promises.Views.{stanza_view}
use Rattle.cudf_value.specs.Parts.{look_up}
use Rattle.cudf_value.specs.Spots.{pieces}
use Rattle.cudf_value.specs.Declarations.{PlainDeclaration}
use Rattle.cudf_problem.specs.declared.problem.Mode.TheVariants.{Strict}
use Rattle.cudf_document.specs.declared.details.StanzasBefore.{StanzasBefore}
use Rattle.cudf_document.specs.declared.details.FoundStanza.{FoundStanza}
use Rattle.cudf_problem.specs.Documents.{is_empty, postmark, is_request, has_name}
use Rattle.cudf_problem.specs.Ids.{Id, id_of, is_known}
use Rattle.cudf_problem.specs.Preamble.{declared}
use Rattle.cudf_document.specs.ProblemFaults.{required_names}
use Rattle.cudf_document.specs.Details.{PlainDetail, request_on, undeclared, mistyped_as, misdeclared, lacking, misplaced, words, bad_piece, first_detail, repeated_detail}
use Rattle.cudf_document.specs.Working.Judging.{added_by}

-- ---- what was passed on the way to a stanza

abbrev pub nothing_passed : StanzasBefore
nothing_passed = record { is_first = true; request = None; declarations = [] }

-- with one stanza more
abbrev pub passed_with : StanzasBefore → PlainStanza → StanzasBefore
passed_with p s = record {
  is_first = false;
  request = option_or p.request (if is_request s then Some s.line else None);
  declarations = if p.is_first then declared (s ∷ []) else p.declarations;
}

-- these stanzas
abbrev pub passed_of : List PlainStanza → StanzasBefore
passed_of before = record {
  is_first = is_empty before;
  request = option_map (λ s. s.line) (find is_request before);
  declarations = declared before;
}

-- the stanza of a line, after what was passed before it
abbrev pub found_in : StanzasBefore → ℕ → List PlainStanza → Option (StanzasBefore × PlainStanza)
found_in p line [] = None
found_in p line (s ∷ ss) = if nat_le line s.last then Some (p, s) else found_in (passed_with p s) line ss

abbrev pub found_view : FoundStanza → StanzasBefore × PlainStanza
found_view f = (f.passed, stanza_view f.stanza)

-- ---- types

-- the words of the types of a package's properties, and those of a request's
abbrev pub package_words : List (List ℕ × List ℕ)
package_words =
    (codes "package", codes "pkgname")
    ∷ (codes "version", codes "posint")
    ∷ (codes "depends", codes "vpkgformula")
    ∷ (codes "conflicts", codes "vpkglist")
    ∷ (codes "provides", codes "veqpkglist")
    ∷ (codes "installed", codes "bool")
    ∷ (codes "keep", codes "enum")
    ∷ (codes "was-installed", codes "string")
    ∷ []

abbrev pub request_words : List (List ℕ × List ℕ)
request_words = (codes "install", codes "vpkglist") ∷ (codes "remove", codes "vpkglist") ∷ (codes "upgrade", codes "vpkglist") ∷ []

-- ---- properties

-- the property of a line
abbrev pub property_at : ℕ → PlainStanza → Option PlainProperty
property_at line s = find (λ p. p.line == line) s.properties

-- after these declarations, and what the properties before it declare, the number of the first bad piece of the property of a line
abbrev pub misdeclared_in : List PlainDeclaration → ℕ → List PlainProperty → Option ℕ
misdeclared_in ds line [] = None
misdeclared_in ds line (p ∷ ps) = if p.line == line then option_and_then (bad_piece 1 ds) (pieces (trim p.value)) else misdeclared_in (ds ++ added_by ds p) line ps

abbrev pub mistyped_after : List PlainDeclaration → PlainStanza → PlainProperty → Option PlainDetail
mistyped_after ds s p = option_map (mistyped_as p.name p.value) (look_up p.name (words ds (postmark s)))

abbrev pub lacking_after : List PlainDeclaration → PlainStanza → Option PlainDetail
lacking_after ds s = option_map lacking (find (λ name. not (list_any (has_name name) s.properties)) (required_names Strict ds))

-- ---- kinds

-- the kinds that speak of an earlier package with the same pair
abbrev pub is_of_pair : Kind → Bool
is_of_pair E11 = true
is_of_pair E15 = true
is_of_pair kind = false

-- the other kinds of which something is reported
abbrev pub is_of_stanza : Kind → Bool
is_of_stanza E4 = true
is_of_stanza E6 = true
is_of_stanza E7 = true
is_of_stanza E8 = true
is_of_stanza E9 = true
is_of_stanza E10 = true
is_of_stanza E14 = true
is_of_stanza E16 = true
is_of_stanza kind = false

-- what is reported of a stanza, after what was passed before it
abbrev pub found_detail : Kind → ℕ → StanzasBefore × PlainStanza → Option PlainDetail
found_detail E4 line (p, s) = first_detail s
found_detail E6 line (p, s) = option_map request_on p.request
found_detail E7 line (p, s) = option_and_then (repeated_detail s) (property_at line s)
found_detail E8 line (p, s) = option_map (λ q. undeclared q.name) (property_at line s)
found_detail E9 line (p, s) = option_and_then (mistyped_after p.declarations s) (property_at line s)
found_detail E10 line (p, s) = option_map misdeclared (misdeclared_in [] line s.properties)
found_detail E14 line (p, s) = lacking_after p.declarations s
found_detail E16 line (p, s) = option_map (λ q. misplaced q.name) (property_at line s)
found_detail kind line f = None

-- ---- pairs

-- the line of the first stanza of this pair before the stanza of a line
abbrev pub pair_line : Id → ℕ → List PlainStanza → Option ℕ
pair_line id line [] = None
pair_line id line (s ∷ ss) = if nat_le line s.last then None
    else (if is_known (id ∷ []) (id_of s) then Some s.line else pair_line id line ss)
