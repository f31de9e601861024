-- The first faulty line of a text, at which reading ends (own).
use Rattle.std.specs.Prelude.{ℕ, Bool, true, false, nat_le, List, ◌∷◌, filter, filter_map, find, slice_get, Option, Some, None, option_map, ◌+◌, take, count_by}
use Rattle.std.specs.List.{slice_split}
use Rattle.cudf_text.specs.declared.fault.Fault.{Fault}
use Rattle.cudf_text.specs.declared.fault.Kind.TheVariants.{E2, E3, E1}
use Rattle.cudf_text.specs.Lines.{continuation, faulty, NumberedLine, is_blank_line, judged_lines, is_lf}
use Rattle.std.specs.Str.Lossy.{utf8_valid_len}

abbrev pub is_faulty : NumberedLine → Bool
is_faulty (n, faulty) = true
is_faulty (n, _) = false

-- what is wrong with lines of which none is blank: a continuation of nothing comes first (E3), or else the first faulty line (E2)
abbrev pub fault_in : List NumberedLine → Option Fault
fault_in ((n, continuation text) ∷ ls) = Some (record { line = n; kind = E3 })
fault_in ls = option_map (λ l. record { line = l.0; kind = E2 }) (find is_faulty ls)

-- the first fault of a text: that of the first of its parts between blank lines that has one
abbrev pub first_fault : List ℕ → Option Fault
first_fault text = slice_get (filter_map fault_in (slice_split is_blank_line (judged_lines text))) 0

-- the line isn't below the fault's
abbrev pub is_read : Option Fault → NumberedLine → Bool
is_read None l = true
is_read (Some f) l = nat_le l.0 f.line

-- the lines of a text that are read: those down to that of the first fault
abbrev pub read_lines : List ℕ → List NumberedLine
read_lines text = filter (is_read (first_fault text)) (judged_lines text)

-- the fault of bytes that aren't UTF-8, on the line at which their longest UTF-8 prefix ends
abbrev pub utf8_fault : List ℕ → Fault
utf8_fault bytes = record { line = 1 + count_by is_lf (take (utf8_valid_len bytes) bytes); kind = E1 }
