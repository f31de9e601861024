-- How lines name the files that they are about, where readers have names: own.
use Rattle.std.specs.Prelude.{ℕ, ◌+◌, ◌-◌, List, [], ◌++◌, length, filter, map, slice_get, codes, decimal, Option, Some, None, option_map, option_and_then}
use Rattle.cudf_text.specs.Lines.{is_lf}
use Rattle.cudf_referee.specs.Criteria.{at_most_max}
use Rattle.cudf_device.specs.Readers.{Change}
use Rattle.cudf_device.specs.Device.{SourceState}
use Rattle.cudf_check.specs.Shown.{shown}
use Rattle.cudf_check.specs.Styles.{Document, of_problem, of_entrant}

-- ---- the readers

-- the name of the first reader, where it has one, and those of the others
pub record Names : Type 0 where
  pub first : Option (List ℕ)
  pub others : List (Option (List ℕ))

-- no reader has a name
abbrev pub unnamed : Names
unnamed = record { first = None; others = [] }

abbrev pub names_of : Change SourceState → List (Change SourceState) → Names
names_of first others = record { first = first.before.name; others = map (λ r. r.before.name) others }

-- the name at a place among the others, from 1
abbrev pub name_at : List (Option (List ℕ)) → ℕ → Option (List ℕ)
name_at names place = option_and_then (λ name. name) (slice_get names (place - 1))

-- ---- the documents

-- the file of a document, where lines name it, and how many of its lines are before the document
pub record PlainOrigin : Type 0 where
  pub file : List ℕ
  pub before : ℕ

-- those of a problem and its solution
pub record PlainOrigins : Type 0 where
  pub problem : Option PlainOrigin
  pub solution : Option PlainOrigin

-- each document is a file of its own
abbrev pub own_file : Option (List ℕ) → Option PlainOrigin
own_file name = option_map (λ file. record { file = file; before = 0 }) name

abbrev pub own_files : Names → PlainOrigins
own_files names = record { problem = own_file names.first; solution = own_file (name_at names.others 1) }

-- how many lines end in a text
abbrev pub ended_lines : List ℕ → ℕ
ended_lines text = length (filter is_lf text)

-- one file holds both, this part of it the problem
abbrev pub one_file : List ℕ → Names → PlainOrigins
one_file problem names = record {
  problem = own_file names.first;
  solution = option_map (λ file. record { file = file; before = ended_lines problem }) names.first;
}

-- that of this document
abbrev pub origin_of : PlainOrigins → Document → Option PlainOrigin
origin_of origins of_problem = origins.problem
origin_of origins _ = origins.solution

-- that of the problem of a ranking, or of the solution at a place
abbrev pub ranked_origin : Names → Document → Option PlainOrigin
ranked_origin names (of_entrant place) = own_file (name_at names.others place)
ranked_origin names _ = own_file names.first

-- ---- the lines

-- the number of a line of a document, counted in its file; 18446744073709551615 where it is greater
abbrev pub line_in : Option PlainOrigin → ℕ → ℕ
line_in None n = n
line_in (Some origin) n = at_most_max (origin.before + n)

-- `P:3: `, before all else
abbrev pub named_before : Option PlainOrigin → ℕ → List ℕ
named_before None n = []
named_before (Some origin) n = shown origin.file ++ codes ":" ++ decimal (line_in (Some origin) n) ++ codes ": "

-- ` line 3`, where no file is named
abbrev pub numbered : Option PlainOrigin → ℕ → List ℕ
numbered None n = codes " line " ++ decimal n
numbered (Some origin) n = []

-- the name of a ranked solution's file, or else its place
abbrev pub entrant_name : Option (List ℕ) → ℕ → List ℕ
entrant_name None place = decimal place
entrant_name (Some file) place = shown file

-- what a fault of it is told of: with its place, where no file is named
abbrev pub entrant_word : Option (List ℕ) → ℕ → List ℕ
entrant_word None place = codes "solution " ++ decimal place
entrant_word (Some file) place = codes "solution"
