-- A problem and a solution in one input, and the solution FAIL (own).
use Rattle.std.specs.Prelude.{ℕ, ◌-◌, Bool, false, not, ◌||◌, List, [], ◌∷◌, length, take, codes, nat_eq, bytes_eq, find, if◌then◌else◌}
use Rattle.std.specs.List.{concat, starts_with}
use Rattle.std.specs.Option.{option_map_or}
use Rattle.cudf_text.specs.Chars.{is_blank_text, trim}
use Rattle.cudf_text.specs.Lines.{is_comment_text, raw_lines, line_text, lines}

-- ---- the cut

-- the line begins with the bytes `request:`
abbrev pub begins_request : List ℕ → Bool
begins_request line = starts_with nat_eq line (codes "request:")

-- the lines after the first that passes; where none passes, none
abbrev pub behind : (List ℕ → Bool) → List (List ℕ) → List (List ℕ)
behind test [] = []
behind test (raw ∷ raws) = if test (line_text raw) then raws else behind test raws

-- the lines after the first blank one after the first request line, with their ends
unfoldable pub solution_part : List ℕ → List ℕ
solution_part text = concat (behind is_blank_text (behind begins_request (raw_lines text)))

-- what is before the solution
unfoldable pub problem_part : List ℕ → List ℕ
problem_part text = take (length text - length (solution_part text)) text

-- ---- FAIL

-- neither blank nor a comment
abbrev pub says_something : List ℕ → Bool
says_something line = not (is_blank_text line || is_comment_text line)

-- there is a line that says something, and the first one is FAIL between blanks or none
unfoldable pub is_fail : List ℕ → Bool
is_fail text = option_map_or (λ line. bytes_eq (trim line) (codes "FAIL")) (find says_something (lines text)) false
