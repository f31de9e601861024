-- What a proof says beside its first fault: own.
use Rattle.std.specs.Prelude.{ℕ, ◌-◌, Bool, true, false, not, ◌&&◌, ◌||◌, ◌==◌, nat_lt, List, [], ◌∷◌, take, slice_get, Option, Some, None, option_and_then, if◌then◌else◌}
use Rattle.std.specs.List.{list_all, list_any}
use Rattle.std.specs.Str.{is_utf8}
use Rattle.cudf_text.specs.Chars.{trim}
use Rattle.cudf_text.specs.Lines.{lines}
use Rattle.cudf_lrat.specs.Lines.{ProofLine, skipped, cut_at_zeros, is_empty, proof_line, words_of}
use Rattle.cudf_lrat.specs.declared.checker.ProofFault.{ProofFault}
use Rattle.cudf_lrat.specs.declared.checker.ProofFault.TheVariants.{NotAStep, NumberNotNew}
use Rattle.cudf_lrat.specs.declared.details.ProofDetail.{ProofDetail}
use Rattle.cudf_lrat.specs.declared.details.ProofDetail.TheVariants as detail
use Rattle.cudf_lrat.specs.declared.reader.SignedNumber.{SignedNumber}

-- what is said, in plain texts
pub data PlainDetail : Type 0 where
  -- the line is that of a binary proof
  binary : PlainDetail
  -- the line is a clause without a number and hints
  no_hints : PlainDetail
  -- the text of a line, without blanks round it
  line_text : List ℕ → PlainDetail
  -- how many clauses the CNF has
  clause_count : ℕ → PlainDetail

-- ---- a line that is no step

-- no character of a text: below the blank, and neither a tab nor a CR
abbrev pub is_binary_byte : ℕ → Bool
is_binary_byte b = nat_lt b 32 && not (b == 9) && not (b == 13)

abbrev pub is_binary : List ℕ → Bool
is_binary line = not (is_utf8 line) || list_any is_binary_byte line

-- literals or none, and a zero at the end
abbrev pub is_clause : Option (List (List SignedNumber)) → Bool
is_clause (Some (literals ∷ [] ∷ [])) = true
is_clause _ = false

-- the text, unless it is empty
abbrev pub shown_detail : List ℕ → Option PlainDetail
shown_detail text = if is_empty text then None else Some (line_text text)

abbrev pub line_detail : List ℕ → Option PlainDetail
line_detail line =
    if is_binary line then Some binary
    else (if is_clause (cut_at_zeros (words_of line)) then Some no_hints
    else shown_detail (trim line))

-- ---- a number that isn't new

abbrev pub is_skipped : ProofLine → Bool
is_skipped skipped = true
is_skipped _ = false

-- the lines before the line of this number from 1 are blank, comments and deletions
abbrev pub is_first_step : List ℕ → ℕ → Bool
is_first_step proof number = list_all (λ line. is_skipped (proof_line line)) (take (number - 1) (lines proof))

-- at the first step, how many clauses have numbers
abbrev pub count_detail : ℕ → List ℕ → ℕ → Option PlainDetail
count_detail clauses proof number = if is_first_step proof number then Some (clause_count clauses) else None

-- ---- and of any fault

-- of a CNF with so many clauses, beside the fault of this kind on the line of this number from 1
abbrev pub fault_detail : ℕ → List ℕ → ℕ → ProofFault → Option PlainDetail
fault_detail clauses proof number NotAStep = option_and_then line_detail (slice_get (lines proof) (number - 1))
fault_detail clauses proof number NumberNotNew = count_detail clauses proof number
fault_detail clauses proof number kind = None

abbrev pub detail_view : ProofDetail → PlainDetail
detail_view detail.Binary = binary
detail_view detail.NoHints = no_hints
detail_view (detail.LineText text) = line_text text.now
detail_view (detail.ClauseCount clauses) = clause_count clauses
