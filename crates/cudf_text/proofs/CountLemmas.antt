-- No more stanzas are left than bytes.
use Rattle.std.proofs.Common.{◌≡◌, ℕ, ◌+◌, ◌<◌, ◌≤◌, ◌^◌, Bool, true, false, List, [], ◌∷◌, length, filter, map, Option, Some, None, ◌∙◌, arith}
use Rattle.std.specs.Prelude.{if◌then◌else◌, is_none, count_by}
use Rattle.std.specs.List.{filter_map, cons_option, slice_split, onto_first}
use Rattle.std.proofs.lemmas.List.{length-map}
use Rattle.std.proofs.lemmas.List.FromFn.{length-enumerate_from}
use Rattle.std.proofs.lemmas.List.Sums.{length-filter, count_by-le-length}
use Rattle.cudf_text.specs.declared.cursor.ReadPosition.{ReadPosition}
use Rattle.cudf_text.specs.declared.fault.Fault.{Fault}
use Rattle.cudf_text.specs.Lines.{Class, blank, class, line_text, lines, raw_lines, is_lf, is_blank_line, is_no_comment, NumberedLine}
use Rattle.cudf_text.specs.Working.Left.{numbered_from, left, text_left, IsCounted}
use Rattle.cudf_text.specs.Working.Reading.{line_fault, read_after}
use Rattle.cudf_text.specs.Working.Tracked.{TrackedStanza, stanza_of, stanzas_of, plain_stanza, plain_of}

-- ---- lines of bytes

onto_line : (b : ℕ) (ls : List (List ℕ)) → length (onto_first b ls) ≤ length ls + 1
onto_line b [] = omega arith
onto_line b (l ∷ ls) = omega arith

one_line_more : (ends : Bool) (b : ℕ) (ls : List (List ℕ)) → length (if ends then (b ∷ []) ∷ ls else onto_first b ls) ≤ length ls + 1
one_line_more true b ls = omega arith
one_line_more false b ls = onto_line b ls

raw_few : (text : List ℕ) → length (raw_lines text) ≤ length text
raw_few [] = omega arith
raw_few (b ∷ bs) =
    let so_far = raw_few bs in
    let more : length (raw_lines (b ∷ bs)) ≤ length (raw_lines bs) + 1 = one_line_more (is_lf b) b (raw_lines bs) in
    omega arith

-- ---- lines that are read

behind : (goes : Bool) (ls : List NumberedLine) (n : ℕ) → length ls ≤ n → length (if goes then ls else []) ≤ n
behind true ls n few = few
behind false ls n few = omega arith

read_few : (before : Class) (ls : List NumberedLine) → length (read_after before ls) ≤ length ls
read_few before [] = omega arith
read_few before ((n, c) ∷ ls) =
    let rest = behind (is_none (line_fault before (n, c))) (read_after c ls) (length ls) (read_few c ls) in
    omega arith

-- ---- stanzas of lines

one_at_most : (o : Option TrackedStanza) (ss : List TrackedStanza) → (length ss ≤ length (cons_option o ss)) × (length (cons_option o ss) ≤ length ss + 1)
one_at_most None ss = (omega arith, omega arith)
one_at_most (Some s) ss = (omega arith, omega arith)

onto_part : (l : NumberedLine) (parts : List (List NumberedLine)) → length (filter_map stanza_of (onto_first l parts)) ≤ length (filter_map stanza_of parts) + 1
onto_part l [] = (one_at_most (stanza_of (l ∷ [])) []).1
onto_part l (part ∷ parts) =
    let rest = filter_map stanza_of parts in
    let with_line : length (filter_map stanza_of (onto_first l (part ∷ parts))) ≤ length rest + 1 = (one_at_most (stanza_of (l ∷ part)) rest).1 in
    let without : length rest ≤ length (filter_map stanza_of (part ∷ parts)) = (one_at_most (stanza_of part) rest).0 in
    omega arith

stanzas_few : (ls : List NumberedLine) → length (stanzas_of ls) ≤ length ls
stanzas_few [] = omega arith
stanzas_few ((n, blank) ∷ ls) = let so_far = stanzas_few ls in omega arith
stanzas_few ((n, c) ∷ ls) =
    let so_far = stanzas_few ls in
    let more : length (stanzas_of ((n, c) ∷ ls)) ≤ length (stanzas_of ls) + 1 = onto_part (n, c) (slice_split is_blank_line ls) in
    omega arith

-- ---- what is left

left_few : (fault : Option Fault) (n : ℕ) (text : List ℕ) → length (left fault (numbered_from n text)).0 ≤ length text
left_few (Some f) n text = omega arith
left_few None n text =
    let ls = numbered_from n text in
    let kept = filter is_no_comment ls in
    let stanzas : length (stanzas_of (read_after blank kept)) ≤ length (read_after blank kept) = stanzas_few (read_after blank kept) in
    let read : length (read_after blank kept) ≤ length kept = read_few blank kept in
    let count : length kept ≡ count_by is_no_comment ls = length-filter is_no_comment ls in
    let counted : count_by is_no_comment ls ≤ length ls = count_by-le-length is_no_comment ls in
    let numbered : length ls ≡ length (raw_lines text) =
    length-enumerate_from n (map class (lines text)) ∙ length-map (lines text) class ∙ length-map (raw_lines text) line_text in
    let raw = raw_few text in
    omega arith

pub few_left : (c : ReadPosition) → IsCounted c → length (plain_of (text_left c)).stanzas < 2 ^ 64
few_left c counted =
    let few = left_few c.fault (c.lines + 1) c.rest.now in
    let plain : length (plain_of (text_left c)).stanzas ≡ length (left c.fault (numbered_from (c.lines + 1) c.rest.now)).0 = length-map (text_left c).stanzas plain_stanza in
    omega arith
