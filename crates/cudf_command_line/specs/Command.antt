-- What the words of the command line ask for.
use Rattle.std.specs.Prelude.{◌≡◌, ◌≢◌, ◌⊎◌, ◌&&◌, ◌||◌, not, if◌then◌else◌, nat_lt, bytes_eq, ℕ, Bool, true, false, List, [], ◌∷◌, ◌++◌, count_by, codes, drop, Option, Some, None, is_some, option_map, unwrap_or, Result, Ok, Err, MatchResult}
use Rattle.std.specs.List.{AllZip}
use Rattle.std.specs.Option.{option_map_or, option_to_list}
use Rattle.std.specs.Result.{IsErrAnd}
use Rattle.clap.specs.Matches.{first_value, matched_of, raw_values}
use Rattle.clap.specs.Words.{Row, all_of, first_of}
use Rattle.clap.specs.declared.parser.matches.Found.{Found}
use Rattle.cudf_text.specs.Chars.{trim}
use Rattle.cudf_value.specs.Numbers.{positive}
use Rattle.cudf_job.specs.Promises.Aims.{criterion}
use Rattle.cudf_job.specs.declared.criteria.Aim.{Aim}
use Rattle.cudf_job.specs.Keys.{PlainKey, key_text}
use Rattle.cudf_job.specs.Promises.Keys.{IsWritable}
use Rattle.cudf_job.specs.KeyViews.{key_view}
use Rattle.cudf_job.specs.declared.key.Key.{Key}
use Rattle.cudf_problem.specs.declared.problem.Mode.{Mode}
use Rattle.cudf_problem.specs.declared.problem.Mode.TheVariants.{Lenient, Strict}
use Rattle.cudf_job.specs.declared.job.Job.{Job}
use Rattle.cudf_job.specs.declared.job.Job.TheVariants.{Lint, Check, Score, Rank, Cnf, CnfBetter, Refute, RefuteBetter}
use Rattle.cudf_command_line.specs.declared.command.FileName.{FileName}
use Rattle.cudf_command_line.specs.declared.command.FileName.TheVariants.{Path, Standard}
use Rattle.cudf_command_line.specs.declared.command.Order.{Order}
use Rattle.cudf_command_line.specs.declared.usage.Refusal.{Refusal}
use Rattle.cudf_command_line.specs.declared.usage.Refusal.TheVariants.{Missing, Twice, NoKey, NoNumber, NoList, Apart, Unpaired, Explained, Memory}

-- ---- files

-- `-` is standard input, and any other word is a path
abbrev pub IsNamedBy : List ℕ → FileName → Type 0
IsNamedBy word (Path path) = (path.now ≡ word) × (word ≢ codes "-")
IsNamedBy word Standard = word ≡ codes "-"

-- there is a word, and it names this file
abbrev pub IsGivenBy : Option (List ℕ) → FileName → Type 0
IsGivenBy None file = ⊥
IsGivenBy (Some word) file = IsNamedBy word file

-- each word names the file at its place
abbrev pub AreNamedBy : List (List ℕ) → List FileName → Type 0
AreNamedBy words files = AllZip IsNamedBy words files

-- the file is standard input
abbrev pub is_standard : FileName → Bool
is_standard (Path path) = false
is_standard Standard = true

-- how lines of a report name the file
abbrev pub file_label : FileName → List ℕ
file_label (Path path) = path.now
file_label Standard = codes "(standard input)"

-- one of the files is standard input
abbrev pub takes_standard : Order → Bool
takes_standard order = is_standard order.problem || nat_lt 0 (count_by is_standard order.others.items)

-- two of the files or more are standard input
abbrev pub takes_standard_twice : Order → Bool
takes_standard_twice order = nat_lt 1 (count_by is_standard (order.problem ∷ order.others.items))

-- ---- pages

-- the key that is printed as the word
abbrev pub IsAfter : Option (List ℕ) → Option Key → Type 0
IsAfter None None = Unit {0}
IsAfter None (Some key) = ⊥
IsAfter (Some word) None = ⊥
IsAfter (Some word) (Some key) = key_text (key_view key) ≡ word

-- no key is printed as the word
abbrev pub RefusesKey : Option (List ℕ) → Refusal → Type 0
RefusesKey given (NoKey word) = (given ≡ Some word.now) × ((key : PlainKey) → IsWritable key → key_text key ≢ word.now)
RefusesKey given refusal = ⊥

-- there is no word, or a key is printed as it
abbrev pub HasAfter : Option (List ℕ) → Type 0
HasAfter given = (key : Option Key) × IsAfter given key

-- the positive number that the word says
abbrev pub IsLimit : Option (List ℕ) → Option ℕ → Type 0
IsLimit None None = Unit {0}
IsLimit None (Some limit) = ⊥
IsLimit (Some word) None = ⊥
IsLimit (Some word) (Some limit) = positive (trim word) ≡ Some limit

-- the word says no positive number
abbrev pub RefusesLimit : Option (List ℕ) → Refusal → Type 0
RefusesLimit given (NoNumber word) = (given ≡ Some word.now) × (positive (trim word.now) ≡ None)
RefusesLimit given refusal = ⊥

-- there is no word, or it says a positive number
abbrev pub HasLimit : Option (List ℕ) → Type 0
HasLimit given = (limit : Option ℕ) × IsLimit given limit

-- ---- lists of criteria

-- the aims that the word lists
abbrev pub IsList : Option (List ℕ) → Option (List Aim) → Type 0
IsList None None = Unit {0}
IsList None (Some aims) = ⊥
IsList (Some word) None = ⊥
IsList (Some word) (Some aims) = criterion word ≡ Some aims

-- the word is no list, or there is no memory for its aims
abbrev pub RefusesList : Option (List ℕ) → Refusal → Type 0
RefusesList given (NoList word) = (given ≡ Some word.now) × (criterion word.now ≡ None)
RefusesList given Memory = is_some given ≡ true
RefusesList given refusal = ⊥

-- there is no word, or it is a list
abbrev pub HasList : Option (List ℕ) → Type 0
HasList given = (aims : Option (List Aim)) × IsList given aims

-- a list, and the file of the answer that is to be bettered by it, are both there, or neither is
abbrev pub is_paired : Option (List ℕ) → Option (List ℕ) → Bool
is_paired None None = true
is_paired (Some list) (Some file) = true
is_paired list file = false

-- these are so, and the list has these aims
pub record IsPair (list file : Option (List ℕ)) (aims : Option (List Aim)) : Type 0 where
  pub aims_are : IsList list aims
  pub together : is_paired list file ≡ true

-- the list can't be had, or one of both is there alone
abbrev pub RefusesPair : Option (List ℕ) → Option (List ℕ) → Refusal → Type 0
RefusesPair list file Unpaired = HasList list × (is_paired list file ≡ false)
RefusesPair list file refusal = RefusesList list refusal

-- `--criteria` is one of the arguments, without its list; after `--` all words are files
abbrev pub has_list_apart : List (List ℕ) → Bool
has_list_apart [] = false
has_list_apart (word ∷ words) = if bytes_eq word (codes "--") then false else (bytes_eq word (codes "--criteria") || has_list_apart words)

-- the arguments are of a command that takes a list
abbrev pub takes_list : List (List ℕ) → Bool
takes_list [] = false
takes_list (word ∷ words) = bytes_eq word (codes "score") || bytes_eq word (codes "rank") || bytes_eq word (codes "cnf") || bytes_eq word (codes "refute")

-- of such a command, the list is separate
abbrev pub takes_list_apart : List (List ℕ) → Bool
takes_list_apart words = takes_list words && has_list_apart words

-- ---- modes

-- a flag is among the words: a parse gives it the value `true`, and without it the value `false`
abbrev pub is_given : Option (List ℕ) → Bool
is_given flag = option_map_or (λ value. bytes_eq value (codes "true")) flag false

-- documents are read strictly where the flag is given
abbrev pub mode_of : Option (List ℕ) → Mode
mode_of flag = if is_given flag then Strict else Lenient

-- ---- commands

-- the status of words that are of the grammar and ask for nothing that is done: a usage fault, but for want of memory
abbrev pub refusal_status : Refusal → ℕ
refusal_status Memory = 6
refusal_status _ = 4

-- the words of a command, by what they stand for
pub record Words : Type 0 where
  pub problem : Option (List ℕ)
  pub solution : Option (List (List ℕ))
  pub solutions : Option (List (List ℕ))
  pub proof : Option (List (List ℕ))
  pub after : Option (List ℕ)
  pub limit : Option (List ℕ)
  pub criteria : Option (List ℕ)
  pub better_than : Option (List ℕ)
  pub strict : Option (List ℕ)
  pub explain : Option (List ℕ)
  pub filename : Option (List ℕ)

abbrev pub words_of : Found → Words
words_of found = record {
  problem = first_value found (codes "problem");
  solution = option_map raw_values (matched_of found (codes "solution"));
  solutions = option_map raw_values (matched_of found (codes "solutions"));
  proof = option_map raw_values (matched_of found (codes "proof"));
  after = first_value found (codes "after");
  limit = first_value found (codes "limit");
  criteria = first_value found (codes "criteria");
  better_than = first_value found (codes "better-than");
  strict = first_value found (codes "strict");
  explain = first_value found (codes "explain");
  filename = first_value found (codes "with-filename");
}

-- what a command takes of its words: its options, its files, of which that of `--better-than` comes last, whether the options go together,
-- and whether all that it needs is there
pub record Taken : Type 0 where
  pub after : Option (List ℕ)
  pub limit : Option (List ℕ)
  pub criteria : Option (List ℕ)
  pub better_than : Option (List ℕ)
  pub strict : Option (List ℕ)
  pub explain : Option (List ℕ)
  pub filename : Option (List ℕ)
  pub problem : Option (List ℕ)
  pub others : Option (List (List ℕ))
  pub is_paired : Bool
  pub may_explain : Bool
  pub is_whole : Bool

-- what each command has, and these files beside the problem's
abbrev pub files_alone : Words → Option (List (List ℕ)) → Option (List ℕ) → Taken
files_alone words others better_than = record {
  after = None;
  limit = None;
  criteria = None;
  better_than = better_than;
  strict = words.strict;
  explain = None;
  filename = words.filename;
  problem = words.problem;
  others = others;
  is_paired = true;
  may_explain = true;
  is_whole = is_some words.problem;
}

abbrev pub lint_words : Words → Taken
lint_words words = record (files_alone words None None) { explain = words.explain }

abbrev pub check_words : Words → Taken
check_words words = record (files_alone words words.solution None) { after = words.after; limit = words.limit; explain = words.explain }

abbrev pub score_words : Words → Taken
score_words words = record (files_alone words words.solution None) { criteria = words.criteria }

abbrev pub rank_words : Words → Taken
rank_words words = record (files_alone words words.solutions None) {
  criteria = words.criteria;
  is_whole = is_some words.criteria && (is_some words.solutions && is_some words.problem);
}

abbrev pub cnf_words : Words → Taken
cnf_words words = record (files_alone words None words.better_than) {
  criteria = words.criteria;
  is_paired = is_paired words.criteria words.better_than;
}

abbrev pub refute_words : Words → Taken
refute_words words = record (files_alone words words.proof words.better_than) {
  criteria = words.criteria;
  explain = words.explain;
  is_paired = is_paired words.criteria words.better_than;
  may_explain = not (is_some words.better_than && is_given words.explain);
  is_whole = is_some words.proof && is_some words.problem;
}

-- ---- what is refused

-- the words of the files behind the problem's
abbrev pub other_words : Option (List (List ℕ)) → Option (List ℕ) → List (List ℕ)
other_words others better_than = unwrap_or others [] ++ option_to_list better_than

-- `-` is two of the files or more
abbrev pub are_standard_twice : List (List ℕ) → Bool
are_standard_twice words = nat_lt 1 (count_by (λ word. bytes_eq word (codes "-")) words)

-- What is judged of the words of a command, in this order: the key, the limit, the list, whether it goes with `--better-than`, whether
-- `--explain` does, whether all is there, and `-`. The first that is wrong is reported. Memory can run out where a list or the names of
-- files are kept.
abbrev pub Refuses : Taken → Refusal → Type 0
Refuses taken (NoKey word) = RefusesKey taken.after (NoKey word)
Refuses taken (NoNumber word) = HasAfter taken.after × RefusesLimit taken.limit (NoNumber word)
Refuses taken (NoList word) = HasAfter taken.after × HasLimit taken.limit × RefusesList taken.criteria (NoList word)
Refuses taken Unpaired = HasAfter taken.after × HasLimit taken.limit × HasList taken.criteria × (taken.is_paired ≡ false)
Refuses taken Explained = HasAfter taken.after × HasLimit taken.limit × HasList taken.criteria × (taken.is_paired ≡ true) × (taken.may_explain ≡ false)
Refuses taken Missing =
    HasAfter taken.after × HasLimit taken.limit × HasList taken.criteria × (taken.is_paired ≡ true) × (taken.may_explain ≡ true) × (taken.is_whole ≡ false)
Refuses taken Twice =
    HasAfter taken.after × HasLimit taken.limit × HasList taken.criteria × (taken.is_paired ≡ true) × (taken.may_explain ≡ true) × (taken.is_whole ≡ true)
    × (are_standard_twice (option_to_list taken.problem ++ other_words taken.others taken.better_than) ≡ true)
Refuses taken Apart = ⊥
Refuses taken Memory = is_some taken.criteria || (is_some taken.others || is_some taken.better_than) ≡ true

-- ---- what is asked for

-- the job of each command, by the words that it takes
abbrev pub Lints : Taken → Job → Type 0
Lints taken job = job ≡ Lint (is_given taken.explain)

abbrev pub Checks : Taken → Job → Type 0
Checks taken (Check key number explain) = IsAfter taken.after key × IsLimit taken.limit number × (explain ≡ is_given taken.explain)
Checks taken job = ⊥

abbrev pub Scores : Taken → Job → Type 0
Scores taken (Score aims) = IsList taken.criteria (option_map (λ v. v.items) aims)
Scores taken job = ⊥

abbrev pub Ranks : Taken → Job → Type 0
Ranks taken (Rank aims) = IsList taken.criteria (Some aims.items)
Ranks taken job = ⊥

-- a list goes with the answer that is to be bettered by it
abbrev pub PrintsCnf : Taken → Job → Type 0
PrintsCnf taken Cnf = IsPair taken.criteria taken.better_than None
PrintsCnf taken (CnfBetter aims) = IsPair taken.criteria taken.better_than (Some aims.items)
PrintsCnf taken job = ⊥

abbrev pub ChecksProof : Taken → Job → Type 0
ChecksProof taken (Refute explain) = IsPair taken.criteria taken.better_than None × (explain ≡ is_given taken.explain)
ChecksProof taken (RefuteBetter aims) = IsPair taken.criteria taken.better_than (Some aims.items) × (is_given taken.explain ≡ false)
ChecksProof taken job = ⊥

-- the order does this, in a mode and with the files that the words name
pub record IsOrderOf (Does : Taken → Job → Type 0) (taken : Taken) (order : Order) : Type 0 where
  pub does : Does taken order.job
  pub mode_is : order.mode ≡ mode_of taken.strict
  pub names_files_is : order.names_files ≡ is_given taken.filename
  pub problem_is : IsGivenBy taken.problem order.problem
  pub others_are : AreNamedBy (other_words taken.others taken.better_than) order.others.items
  pub standard_once : takes_standard_twice order ≡ false

-- what a command that does this answers, of the words that it takes
abbrev pub AnswersBy : (Taken → Job → Type 0) → Taken → Result Order Refusal → Type 0
AnswersBy Does taken result = MatchResult result (IsOrderOf Does taken) (Refuses taken)

-- what the words of the command of this name ask for
pub record Asks (name : List ℕ) (words : Words) (result : Result Order Refusal) : Type 0 where
  pub lint : name ≡ codes "lint" → AnswersBy Lints (lint_words words) result
  pub check : name ≡ codes "check" → AnswersBy Checks (check_words words) result
  pub score : name ≡ codes "score" → AnswersBy Scores (score_words words) result
  pub rank : name ≡ codes "rank" → AnswersBy Ranks (rank_words words) result
  pub cnf : name ≡ codes "cnf" → AnswersBy PrintsCnf (cnf_words words) result
  pub refute : name ≡ codes "refute" → AnswersBy ChecksProof (refute_words words) result

-- the same words, in the rows that a parse has of a command
abbrev pub words_in : List Row → Words
words_in rows = record {
  problem = first_of (codes "problem") rows;
  solution = all_of (codes "solution") rows;
  solutions = all_of (codes "solutions") rows;
  proof = all_of (codes "proof") rows;
  after = first_of (codes "after") rows;
  limit = first_of (codes "limit") rows;
  criteria = first_of (codes "criteria") rows;
  better_than = first_of (codes "better-than") rows;
  strict = first_of (codes "strict") rows;
  explain = first_of (codes "explain") rows;
  filename = first_of (codes "with-filename") rows;
}

-- what the command that a parse met asks for, by its name and its rows; without one a word is missing
abbrev pub AsksOf : Option (List ℕ × List Row) → Result Order Refusal → Type 0
AsksOf None result = IsErrAnd result (λ refusal. refusal ≡ Missing)
AsksOf (Some met) result = Asks met.0 (words_in met.1) result

-- the words after the first one, which is the program's own name
abbrev pub arguments : List (List ℕ) → List (List ℕ)
arguments words = drop 1 words

-- each list is in the word of its `--criteria`, and the order is what the command asks for
pub record IsAskedBy (words : List (List ℕ)) (met : Option (List ℕ × List Row)) (order : Order) : Type 0 where
  pub together : has_list_apart (arguments words) ≡ false
  pub asks : AsksOf met (Ok order)

-- a list is separate, or else what the command asks for is refused
abbrev pub IsRefusedBy : List (List ℕ) → Option (List ℕ × List Row) → Refusal → Type 0
IsRefusedBy words met refusal = ((refusal ≡ Apart) × (has_list_apart (arguments words) ≡ true)) ⊎ ((has_list_apart (arguments words) ≡ false) × AsksOf met (Err refusal))
