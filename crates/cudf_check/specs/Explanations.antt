-- What is added to a line, where lines are explained: own.
use Rattle.std.specs.Prelude.{ℕ, ◌==◌, Bool, true, false, List, [], ◌++◌, length, codes, decimal, Option, Some, None, is_some, unwrap_or, option_and_then, if◌then◌else◌}
use Rattle.std.specs.Option.{option_map_or}
use Rattle.cudf_text.specs.Stanzas.{PlainStanza}
use Rattle.cudf_document.specs.declared.details.Format.{Format}
use Rattle.cudf_document.specs.declared.details.Format.TheVariants.{Gzip, Bzip2, Xz, Zstandard, Utf16}
use Rattle.cudf_document.specs.Details.{stanza_line, PlainDetail, invalid_byte, of_format, byte_order_mark, line_text, no_bytes, begins_with, request_on, name_on, undeclared, mistyped, misdeclared, package_on, lacking, misplaced}
use Rattle.cudf_problem.specs.Documents.{postmark_named}
use Rattle.cudf_problem.specs.Ids.{Id}
use Rattle.cudf_problem.specs.Universe.{PlainPackage, PlainProblem, package_at}
use Rattle.cudf_index.specs.Satisfaction.{numbers_of, first_named}
use Rattle.cudf_job.specs.declared.key.Aspect.{Aspect}
use Rattle.cudf_job.specs.declared.key.Aspect.TheVariants.{Unsatisfied, Many, Lower}
use Rattle.cudf_referee.specs.Criteria.{universe}
use Rattle.cudf_referee.specs.Explanations.{was_installed, would_do, needed_by, least_of, greatest_of}
use Rattle.cudf_referee.specs.Instances.{PlainWhat, needs, install, upgrade, unknown, PlainInstance}
use Rattle.cudf_referee.specs.Proposals.{Proposal}
use Rattle.cudf_referee.specs.Violations.{met_by}
use Rattle.cudf_check.specs.Naming.{PlainOrigin, line_in}
use Rattle.cudf_check.specs.Shown.{byte_digits, clipped}

-- ---- instances

-- `wheel 3 line 9`
abbrev pub stanza_text : PlainPackage → List ℕ
stanza_text p = p.name ++ codes " " ++ decimal p.version ++ codes " line " ++ decimal p.line

-- the first package that alone would do, where there is one
abbrev pub would_do_text : Option PlainPackage → List ℕ
would_do_text None = codes "; nothing in the problem would do"
would_do_text (Some p) = codes "; " ++ stanza_text p ++ codes " would do"

-- `, not installed on line 21 of the solution`, where it has a stanza of the package on this line
abbrev pub listed_text : Option PlainOrigin → Option ℕ → List ℕ
listed_text origin None = []
listed_text origin (Some n) = codes ", not installed on line " ++ decimal (line_in origin n) ++ codes " of the solution"

-- of the package at a place, the first of these stanzas of a solution
abbrev pub listed_in : Option PlainOrigin → List PlainStanza → PlainProblem → ℕ → List ℕ
listed_in origin stanzas problem place = listed_text origin (option_and_then (stanza_line stanzas) (package_at problem place))

-- where there is a place, what is said of the package there
abbrev pub said_of : (ℕ → List ℕ) → Option ℕ → List ℕ
said_of listed place = option_map_or listed place []

-- the first of those that were installed, or else of all, each with what is said of it
abbrev pub help_text : Option PlainPackage → List ℕ → Option PlainPackage → List ℕ → List ℕ
help_text (Some p) said does others = codes "; " ++ stanza_text p ++ codes " was installed" ++ said
help_text None said does others = would_do_text does ++ others

-- the instance is of depends, install or upgrade, and lacks a package that satisfies its clause or entry
abbrev pub lacks_package : PlainWhat → Option Aspect → Bool
lacks_package (needs clause) aspect = true
lacks_package (install v) aspect = true
lacks_package (upgrade v) (Some Unsatisfied) = true
lacks_package what aspect = false

-- `; wheel 3 line 9 was installed`, of the first by place, and what is said of the package at that place
abbrev pub help_of : (ℕ → List ℕ) → PlainProblem → PlainInstance → List ℕ
help_of listed problem i = if lacks_package i.what i.key.aspect
    then help_text (option_and_then (package_at problem) (was_installed problem i)) (said_of listed (was_installed problem i))
    (option_and_then (package_at problem) (would_do problem i)) (said_of listed (would_do problem i))
    else []

-- the first package of this name, where there is one
abbrev pub named_text : List ℕ → Option PlainPackage → List ℕ
named_text name None = codes "; the problem has no " ++ name
named_text name (Some p) = codes "; the problem has " ++ stanza_text p

-- a number of an entry of `upgrade`, which has one where the entry is violated so
abbrev pub number_text : Option ℕ → List ℕ
number_text number = decimal (unwrap_or number 0)

-- `; 2 and 5 now`, `; 1 now, 4 before`
abbrev pub numbers_added : Proposal → List ℕ → Option Aspect → List ℕ
numbers_added s name None = []
numbers_added s name (Some Unsatisfied) = []
numbers_added s name (Some Many) = let numbers = numbers_of name s.proposed in
    codes "; " ++ number_text (least_of numbers) ++ codes " and " ++ number_text (greatest_of numbers) ++ codes " now"
numbers_added s name (Some Lower) =
    codes "; " ++ number_text (least_of (numbers_of name s.proposed)) ++ codes " now, " ++ number_text (greatest_of (numbers_of name s.initial)) ++ codes " before"

abbrev pub unknown_added : Proposal → Option Id → List ℕ
unknown_added s None = []
unknown_added s (Some (name, version)) = named_text name (option_and_then (package_at s.problem) (first_named (universe s) name))

-- what the statuses say of what is wrong
abbrev pub status_added : Proposal → PlainWhat → Option Aspect → Option Id → List ℕ
status_added s (upgrade v) aspect subject = numbers_added s v.name aspect
status_added s unknown aspect subject = unknown_added s subject
status_added s what aspect subject = []

-- the package that needs the one that meets an entry, where there is one
abbrev pub needer_text : Option PlainPackage → List ℕ
needer_text None = codes "nothing installed"
needer_text (Some p) = stanza_text p

-- `; line 13, needed by shop 1 line 1`, of the package that meets an entry, where there is one
abbrev pub needed_text : Option PlainPackage → Option PlainPackage → List ℕ
needed_text None needer = []
needed_text (Some p) needer = codes "; line " ++ decimal p.line ++ codes ", needed by " ++ needer_text needer

-- of the package at the place that meets an entry, and the first installed one that needs it
abbrev pub needed_added : Proposal → Option ℕ → List ℕ
needed_added s met = needed_text (option_and_then (package_at s.problem) met) (option_and_then (package_at s.problem) (option_and_then (needed_by s.proposed) met))

-- what the problem, the statuses and the solution's stanzas say of a violated instance, whose entry the package at this
-- place meets
unfoldable pub explained : (ℕ → List ℕ) → Proposal → PlainInstance → Option ℕ → List ℕ
explained listed s i met = help_of listed s.problem i ++ status_added s i.what i.key.aspect i.subject ++ needed_added s met

abbrev pub met_added : Bool → (ℕ → List ℕ) → Proposal → PlainInstance → Option ℕ → List ℕ
met_added explain listed s i met = if explain then explained listed s i met else []

-- what is added to its line, where lines are explained
abbrev pub instance_added : Bool → (PlainProblem → ℕ → List ℕ) → Proposal → PlainInstance → List ℕ
instance_added explain listed s i = met_added explain (listed s.problem) s i (met_by s.proposed i)

-- and to that of an instance of a problem, whatever the status
abbrev pub reason_added : Bool → PlainProblem → PlainInstance → List ℕ
reason_added explain problem i = if explain then help_of (λ place. []) problem i else []

-- ---- faults

-- a file that isn't UTF-8
abbrev pub format_text : Format → List ℕ
format_text Gzip = codes "it is a gzip file"
format_text Bzip2 = codes "it is a bzip2 file"
format_text Xz = codes "it is an xz file"
format_text Zstandard = codes "it is a Zstandard file"
format_text Utf16 = codes "it is a UTF-16 file"

-- `, entry 2`, of a list
abbrev pub entry_added : Option ℕ → List ℕ
entry_added None = []
entry_added (Some n) = codes ", entry " ++ decimal n

-- `: 1.5`, unless the text is empty
abbrev pub value_added : List ℕ → List ℕ
value_added text = if length text == 0 then [] else codes ": " ++ clipped text

-- after the name of a postmark, which may be that of the next stanza
abbrev pub unparted_added : List ℕ → List ℕ
unparted_added name = if is_some (postmark_named name) then codes ", a blank line may be missing before it" else []

-- what is said of a name that has no meaning where it is
abbrev pub misplaced_text : List ℕ → List ℕ
misplaced_text name = if is_some (postmark_named name) then codes "a blank line is missing before " ++ name else name ++ codes " has no meaning here"

-- lines are counted as that of the fault is
abbrev pub detail_text : Option PlainOrigin → PlainDetail → List ℕ
detail_text origin (invalid_byte place byte) = codes "byte " ++ decimal place ++ codes " of the line is " ++ byte_digits byte
detail_text origin (of_format format) = format_text format
detail_text origin byte_order_mark = codes "it begins with a byte order mark"
detail_text origin (line_text text) = codes "it is " ++ clipped text
detail_text origin no_bytes = codes "it is empty"
detail_text origin (begins_with name) = codes "it begins with " ++ name
detail_text origin (request_on n) = codes "the request stands on line " ++ decimal (line_in origin n)
detail_text origin (name_on name n) = name ++ codes " stands on line " ++ decimal (line_in origin n) ++ unparted_added name
detail_text origin (undeclared name) = codes "nothing declares " ++ name ++ unparted_added name
detail_text origin (mistyped name word entry text) = name ++ codes " is no " ++ word ++ entry_added entry ++ value_added text
detail_text origin (misdeclared n) = codes "declaration " ++ decimal n
detail_text origin (package_on name version n) = name ++ codes " " ++ decimal version ++ codes " stands on line " ++ decimal (line_in origin n)
detail_text origin (lacking name) = codes "it lacks " ++ name
detail_text origin (misplaced name) = misplaced_text name

-- `; nothing declares size`, where there is a detail
abbrev pub detail_added : Option PlainOrigin → Option PlainDetail → List ℕ
detail_added origin None = []
detail_added origin (Some detail) = codes "; " ++ detail_text origin detail
