-- The laws, by induction on the text or on its parts.
use Rattle.std.proofs.Common.{ℕ, List, [], ◌∷◌, refl, ap, arith}
use Rattle.std.specs.List.{AllByRecursion, onto_first, filter_map, slice_split, cons_option}
use Rattle.std.proofs.lemmas.Bool.{or_parts}
use Rattle.std.proofs.lemmas.List.Elements.{All-from_recursion}
use Rattle.cudf_text.specs.Lines.{is_blank_line, NumberedLine, is_lf}
use Rattle.cudf_text.specs.LineFaults.{read_lines}
use Rattle.cudf_text.specs.Stanzas.{PlainProperty, PlainStanza, plain_text, stanza_of, properties, last_number}
use Rattle.cudf_text.specs.Working.Tracked.{plain_with}
use Rattle.cudf_text.specs.Promises.Laws.{LineEndsAtLf, LastLineNeedsNoLf, BeginsWithProperty, StanzasHaveProperties}

pub line_ends_at_lf : (line rest : List ℕ) → LineEndsAtLf line rest
line_ends_at_lf [] rest none = refl
line_ends_at_lf (b ∷ line) rest none =
    let parts = or_parts (is_lf b) _ none in
    let here = parts.0 in
    rw here (ap (onto_first b) (line_ends_at_lf line rest parts.1))

pub last_line_needs_no_lf : (line : List ℕ) → LastLineNeedsNoLf line
last_line_needs_no_lf [] none some = absurd (omega arith)
last_line_needs_no_lf (b ∷ []) none some = let here = (or_parts (is_lf b) _ none).0 in rw here refl
last_line_needs_no_lf (b ∷ c ∷ line) none some =
    let parts = or_parts (is_lf b) _ none in
    let here = parts.0 in
    rw here (ap (onto_first b) (last_line_needs_no_lf (c ∷ line) parts.1 (omega arith)))

one_begins : (last : ℕ) (ps : List PlainProperty) (rest : List PlainStanza) → AllByRecursion BeginsWithProperty rest
    → AllByRecursion BeginsWithProperty (cons_option (plain_with last ps) rest)
one_begins last [] rest all = all
one_begins last (p ∷ ps) rest all = (refl, all)

all_begin : (parts : List (List NumberedLine)) → AllByRecursion BeginsWithProperty (filter_map stanza_of parts)
all_begin [] = tt
all_begin (part ∷ parts) = one_begins (last_number part) (properties part) (filter_map stanza_of parts) (all_begin parts)

pub stanzas_have_properties : (text : List ℕ) → StanzasHaveProperties text
unfolding plain_text
stanzas_have_properties text = All-from_recursion _ _ (all_begin (slice_split is_blank_line (read_lines text)))
