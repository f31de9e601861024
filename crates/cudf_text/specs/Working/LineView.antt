-- What the code says of a line, as its class.
use Rattle.std.specs.Prelude.{ℕ, Bool, ◌&&◌, ◌==◌, List, slice_index}
use Rattle.std.specs.Str.{byte}
use Rattle.std.specs.Char.{is_ascii_alphabetic}
use Rattle.cudf_text.specs.declared.line.Line.{Line}
use Rattle.cudf_text.specs.declared.line.Line.TheVariants as code
use Rattle.cudf_text.specs.Lines.{Class, comment, blank, continuation, named, faulty}

abbrev pub line_view : Line → Class
line_view code.Comment = comment
line_view code.Blank = blank
line_view (code.Continuation text) = continuation text.now
line_view (code.Named name text) = named name.now text.now
line_view code.Faulty = faulty

abbrev pub is_colon : ℕ → Bool
is_colon b = b == byte ":"

-- the line begins with a letter, and a colon comes after its first n characters
abbrev pub ends_name : List ℕ → ℕ → Bool
ends_name line n = is_colon (slice_index line n) && is_ascii_alphabetic (slice_index line 0)
