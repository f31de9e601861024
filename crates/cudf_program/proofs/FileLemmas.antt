-- Files in a row: the devices over them, and the bytes that these give.
use Rattle.std.proofs.Common.{◌≡◌, ◌≢◌, ◌+◌, ◌<◌, ◌≤◌, ◌⊎◌, ℕ, Bool, suc, zero, true, false, cond, ◌||◌, List, [], ◌∷◌, ◌++◌, map, take, drop, count_by, length, get_or, nat_lt, IfOk, IsErrOf, ◌↔◌, IfSome, Option, Some, None, option_map, Result, Ok, Err, MatchResult, IsErr, inl, inr, refl, sym, ap, ◌∙◌, subst, arith}
use Rattle.std.proofs.lemmas.Grind.{common_steps}
use Rattle.std.proofs.lemmas.Bool.{cases_lt, ltb-false}
use Rattle.std.proofs.lemmas.List.Sums.{sum_by-cons, sum_by-drop_more}
use Rattle.std.specs.List.{AllZip}
use Rattle.std.specs.Option.{option_to_list}
use Rattle.std.specs.Result.{IsErrAnd}
use Rattle.cudf_device.specs.Readers.{Change, IsTooLong, OfOne, ReadsAll, change, changes, most_bytes}
use Rattle.cudf_check.specs.Naming.{names_of}
use Rattle.cudf_check.specs.Runs.{HasRead, Runs}
use Rattle.cudf_device.specs.Writers.{AppendsPrefix}
use Rattle.cudf_check.specs.JobReport.{report}
use Rattle.cudf_device.specs.Outcomes.{Report}
use Rattle.cudf_job.specs.declared.job.Job.{Job}
use Rattle.std.specs.Io.KnownBytes.{Appends, Consumes, Keeps}
use Rattle.cudf_device.specs.Device.{SinkState, SourceState}
use Rattle.cudf_device.specs.declared.outcome.Outcome.{Outcome}
use Rattle.cudf_device.specs.declared.outcome.RunError.{RunError}
use Rattle.cudf_device.specs.declared.outcome.RunError.TheVariants.{TooLong, Write}
use Rattle.cudf_problem.specs.declared.problem.Mode.{Mode}
use Rattle.cudf_program.specs.Failure.{IsStatusOf, Prints, failure_status}
use Rattle.cudf_program.specs.Inputs.{IsFirstUnopened, IsGivenFor, IsHeldBy, IsOpenable, IsOpenedAs, IsThere, IsUnopened, KeepsGiven, Opens, ReaderOf, left_behind}
use Rattle.cudf_program.specs.Program.{AreShort, Did, Fails, Finishes, IsDone, IsKnownAs, IsTried, HoldsOfKnown, labels, names_in}
use Rattle.cudf_command_line.specs.Command.{is_standard}
use Rattle.cudf_command_line.specs.declared.command.FileName.{FileName}
use Rattle.cudf_command_line.specs.declared.command.FileName.TheVariants.{Path, Standard}
use Rattle.cudf_command_line.specs.declared.command.Order.{Order}
use Rattle.cudf_program.specs.declared.failure.Failure.{Failure}
use Rattle.cudf_program.specs.declared.Task.{Task}

-- ---- bytes

all_known : (reader : Change SourceState) (bytes : List ℕ) → ReadsAll reader bytes → IsKnownAs reader.before.remaining bytes
all_known reader bytes h = grind (arith, common_steps)

each_known : {D : Type 0} (state : D → SourceState) (left : D → Option (List ℕ)) → ((d : D) → left d ≡ (state d).remaining)
    → (olds news : List D) (texts : List (List ℕ)) → length news ≡ length olds → AllZip ReadsAll (changes state olds news) texts → AllZip IsKnownAs (map left olds) texts
each_known state left is [] [] [] same m = tt
each_known state left is [] [] (t ∷ texts) same m = absurd m
each_known state left is [] (new ∷ news) texts same m = absurd (omega arith)
each_known state left is (old ∷ olds) [] texts same m = absurd (omega arith)
each_known state left is (old ∷ olds) (new ∷ news) [] same m = absurd m
each_known state left is (old ∷ olds) (new ∷ news) (t ∷ texts) same m =
    (subst (λ known. IsKnownAs known t) (sym (is old)) (all_known (change state old new) t m.0), each_known state left is olds news texts (omega arith) m.1)

all_short : (readers : List (Change SourceState)) (texts : List (List ℕ)) → AllZip ReadsAll readers texts → (OfOne IsTooLong readers → ⊥) → AreShort texts
all_short [] [] m none = tt
all_short [] (t ∷ texts) m none = absurd m
all_short (reader ∷ readers) [] m none = absurd m
all_short (reader ∷ readers) (t ∷ texts) m none = (
  elim (cases_lt most_bytes (length t)) [
    | inl long ↦ absurd (none (inl (omega (arith, m.0.counted))))
    | inr short ↦ short
  ],
  all_short readers texts m.1 (λ h. none (inr h)),
)

-- a read that gave no byte leaves what is known as it was
pub kept : (old new : Option (List ℕ)) (bytes : List ℕ) → bytes ≡ [] → Consumes old new bytes → Keeps old new
kept None new bytes none h = tt
kept (Some xs) None bytes none h = absurd h
kept (Some xs) (Some ys) bytes none h = sym (h ∙ ap (λ front. front ++ ys) none)

-- ---- runs

-- an outcome, or a failed write, comes of no input that is too long
done_then : {L : Type 0} {P Q : Outcome → Type 0} (result : Result Outcome RunError) → (IsErrOf result TooLong ↔ L) → ((outcome : Outcome) → (L → ⊥) → P outcome → Q outcome) → IfOk result P → IfOk result Q
done_then (Ok outcome) long f h = f outcome (λ l. absurd (not_err outcome (long.1 l))) h
  where
    not_err : (outcome : Outcome) → IsErrOf (Ok outcome) TooLong → ⊥
    not_err outcome e = cc
done_then (Err error) long f h = h

not_long : {L : Type 0} (result : Result Outcome RunError) → (IsErrOf result TooLong ↔ L) → IsErrOf result Write → L → ⊥
not_long result long failed l = let told : IsErrOf result TooLong = long.1 l in cc

-- the names of readers are those that they had before
same_names : {D : Type 0} (state : D → SourceState) (olds news : List D) → length news ≡ length olds → map (λ r. r.before.name) (changes state olds news) ≡ map (λ d. (state d).name) olds
same_names state [] [] same = refl
same_names state [] (new ∷ news) same = absurd (omega arith)
same_names state (old ∷ olds) [] same = absurd (omega arith)
same_names state (old ∷ olds) (new ∷ news) same = ap (λ names. (state old).name ∷ names) (same_names state olds news (omega arith))

-- devices, of which a run has read these inputs
module _ {D : Type 0} (state : D → SourceState) (job : Job) (mode : Mode) (first : Change SourceState) (olds news : List D) (same : length news ≡ length olds) where
  of_run : (P : Report → Type 0) → (IsTooLong first ⊎ OfOne IsTooLong (changes state olds news) → ⊥) → HasRead first (changes state olds news) (λ text texts. P (report job mode (names_of first (changes state olds news)) text texts))
      → HoldsOfKnown job mode (record { first = first.before.name; others = map (λ d. (state d).name) olds }) first.before.remaining (map (λ d. (state d).remaining) olds) P
  of_run P none h = record {
    first = h.text;
    others = h.texts;
    first_is = all_known first h.text h.first_read;
    others_are = each_known state (λ d. (state d).remaining) (λ d. refl) olds news h.texts same h.others_read;
    short = all_short (first ∷ changes state olds news) (h.text ∷ h.texts) (h.first_read, h.others_read) none;
    holds = subst (λ names. P (report job mode (record { first = first.before.name; others = names }) h.text h.texts)) (same_names state olds news same) h.holds;
  }

  -- what was done to the devices is what was done to inputs of which they tell the bytes
  pub did : (out : Change SinkState) (result : Result Outcome RunError) → Runs (report job mode (names_of first (changes state olds news))) first (changes state olds news) out.before out.after result
      → Did job mode (record { first = first.before.name; others = map (λ d. (state d).name) olds }) first.before.remaining (map (λ d. (state d).remaining) olds) out result
  did out result runs = record {
    done = done_then result runs.too_long (λ outcome none h. of_run (λ r. Appends out.before.contents out.after.contents r.text × (outcome ≡ r.outcome)) none h) runs.done;
    cut_short = λ failed. of_run (λ r. AppendsPrefix out.before.contents out.after.contents r.text) (not_long result runs.too_long failed) (runs.cut_short failed);
    untouched = runs.untouched;
    write = runs.write;
  }

-- ---- files by name

-- where standard input isn't given, no file is named `-`
pub held_anyway : (opens : Opens) (standard : Option (Option (List ℕ))) (name : FileName) (known : Option (List ℕ))
    → IsHeldBy opens None name known → IsHeldBy opens standard name known
held_anyway opens standard (Path path) known h = h
held_anyway opens standard Standard known h = absurd h

-- what is held of what a file left after is held of what was there before
pub held_behind : {S : Type 0} (opens : Opens) (left : S → Option (List ℕ)) (first : FileName) (standard : Option S) (name : FileName) (known : Option (List ℕ))
    → IsHeldBy opens (option_map left (left_behind first standard)) name known → IsHeldBy opens (option_map left standard) name known
held_behind opens left (Path path) standard name known h = h
held_behind opens left Standard standard name known h = held_anyway opens (option_map left standard) name known h

-- what is held of what is there now is held of what was there at the start, if that is the same
pub held_from : {S : Type 0} (opens : Opens) (left : S → Option (List ℕ)) (start now : Option S) (name : FileName) (known : Option (List ℕ))
    → IfSome now (λ given. start ≡ Some given) → IsHeldBy opens (option_map left now) name known → IsHeldBy opens (option_map left start) name known
held_from opens left start None name known same h = held_anyway opens (option_map left start) name known h
held_from opens left start (Some given) name known same h = subst (λ standard. IsHeldBy opens (option_map left standard) name known) (sym same) h

pub same_behind : {S : Type 0} (start now : Option S) (name : FileName) → IfSome now (λ given. start ≡ Some given) → IfSome (left_behind name now) (λ given. start ≡ Some given)
same_behind start now (Path path) same = same
same_behind start now Standard same = tt

pub keeps_all : (known : Option (List ℕ)) → Keeps known known
keeps_all None = tt
keeps_all (Some bytes) = refl

keeps_on : (old mid new : Option (List ℕ)) → Keeps old mid → Keeps mid new → Keeps old new
keeps_on None mid new h k = tt
keeps_on (Some xs) None new h k = absurd h
keeps_on (Some xs) (Some ys) None h k = absurd k
keeps_on (Some xs) (Some ys) (Some zs) h k = k ∙ h

pub held_before : (opens : Opens) (old new : Option (Option (List ℕ))) (name : FileName) (known : Option (List ℕ))
    → KeepsGiven old new → IsHeldBy opens new name known → IsHeldBy opens old name known
held_before opens old new (Path path) known keeps h = h
held_before opens old None Standard known keeps h = absurd h
held_before opens None (Some new) Standard known keeps h = absurd keeps
held_before opens (Some old) (Some new) Standard known keeps h = keeps_on old new known keeps h

pub each_weaker : {A B : Type 0} (R S : A → B → Type 0) → ((a : A) (b : B) → R a b → S a b) → (xs : List A) (ys : List B) → AllZip R xs ys → AllZip S xs ys
each_weaker R S weaker [] [] h = tt
each_weaker R S weaker [] (y ∷ ys) h = absurd h
each_weaker R S weaker (x ∷ xs) [] h = absurd h
each_weaker R S weaker (x ∷ xs) (y ∷ ys) h = (weaker x y h.0, each_weaker R S weaker xs ys h.1)

-- what is known of files is what is known of the inputs under their devices
each_held : {F S : Type 0} (opens : Opens) (standard : Option (Option (List ℕ))) (left : ReaderOf F S → Option (List ℕ)) (names : List FileName) (devices : List (ReaderOf F S))
    → AllZip (IsOpenedAs opens standard left) names devices → AllZip (IsHeldBy opens standard) names (map left devices)
each_held opens standard left [] [] h = tt
each_held opens standard left [] (device ∷ devices) h = absurd h
each_held opens standard left (name ∷ names) [] h = absurd h
each_held opens standard left (name ∷ names) (device ∷ devices) h = (h.0, each_held opens standard left names devices h.1)

-- a file that is open could be opened
pub openable : (opens : Opens) (standard : Option (Option (List ℕ))) (name : FileName) (known : Option (List ℕ)) → IsHeldBy opens standard name known → IsOpenable opens name
openable opens standard (Path path) known h = (known, h)
openable opens standard Standard known h = tt

-- those before it are open
pub first_unopened : {F S : Type 0} (opens : Opens) (standard : Option (Option (List ℕ))) (left : ReaderOf F S → Option (List ℕ)) (names : List FileName) (i : ℕ) (d : FileName)
    (devices : List (ReaderOf F S)) (failure : Failure) → i < length names → AllZip (IsOpenedAs opens standard left) (take i names) devices
    → IsUnopened opens (get_or names i d) failure → IsFirstUnopened opens names failure
first_unopened opens standard left [] i d devices failure below are h = absurd (omega arith)
first_unopened opens standard left (name ∷ names) zero d devices failure below are h = inl h
first_unopened opens standard left (name ∷ names) (suc i) d [] failure below are h = absurd are
first_unopened opens standard left (name ∷ names) (suc i) d (device ∷ devices) failure below are h =
    inr (openable opens standard name (left device) are.0, first_unopened opens standard left names i d devices failure (omega arith) are.1 h)

-- ---- standard input

abbrev one_if : Bool → ℕ
one_if b = cond b 1 0

-- at a place of a list, those from there on are it and those after it
pub counted : (names : List FileName) (i : ℕ) (d : FileName) → i < length names
    → count_by is_standard (drop i names) ≡ one_if (is_standard (get_or names i d)) + count_by is_standard (drop (i + 1) names)
counted names i d below = sum_by-drop_more (λ name. one_if (is_standard name)) names i d below

-- it is there for a name for which there is enough of it
pub there : {S : Type 0} (name : FileName) (standard : Option S) (n : ℕ) → one_if (is_standard name) + n ≤ length (option_to_list standard) → IsThere name standard
there (Path path) standard n enough = tt
there Standard None n enough = absurd (omega arith)
there Standard (Some given) n enough = tt

-- and after it there is enough for the others
pub enough_behind : {S : Type 0} (name : FileName) (standard : Option S) (n : ℕ) → one_if (is_standard name) + n ≤ length (option_to_list standard)
    → n ≤ length (option_to_list (left_behind name standard))
enough_behind (Path path) standard n enough = omega arith
enough_behind Standard None n enough = absurd (omega arith)
enough_behind Standard (Some given) n enough = omega arith

none_taken : (first : Bool) (n : ℕ) → false ≡ (first || nat_lt 0 n) → one_if first + n ≤ 0
none_taken true n h = absurd cc
none_taken false n h = omega (arith, ltb-false 0 n (sym h))

-- for an order for which it is given there is enough of it
pub enough : {S : Type 0} (order : Order) (standard : Option S) → IsGivenFor order standard
    → one_if (is_standard order.problem) + count_by is_standard order.others.items ≤ length (option_to_list standard)
enough order None is = none_taken (is_standard order.problem) (count_by is_standard order.others.items) is.given
enough order (Some given) is =
    let counted = sum_by-cons (λ name. one_if (is_standard name)) order.problem order.others.items in
    omega (arith, counted, ltb-false 1 (count_by is_standard (order.problem ∷ order.others.items)) is.once)

-- ---- what is done

-- an error that is handed on by `?`
pub refused : {T E : Type 0} (P : T → Type 0) (Q : E → Type 0) (error : E) (result : Result T E) → IsErr result × IsErrAnd result (λ e. e ≡ error) → Q error → MatchResult result P Q
refused P Q error (Ok value) is h = absurd is.1
refused P Q error (Err e) is h = subst Q (sym is.1) h

pub done : {F S : Type 0} (opens : Opens) (standard : Option (Option (List ℕ))) (left : ReaderOf F S → Option (List ℕ)) (order : Order) (task : Task F S) (out : Change SinkState) (status : ℕ)
    → task.order ≡ order → IsOpenedAs opens standard left order.problem task.problem → AllZip (IsOpenedAs opens standard left) order.others.items task.others.items
    → names_in task ≡ labels order → Finishes left task out status → IsDone opens standard order out status
done opens standard left order task out status order_is problem_is others_are named finished = record {
  problem = left task.problem;
  others = map left task.others.items;
  problem_is = problem_is;
  others_are = each_held opens standard left order.others.items task.others.items others_are;
  answer = finished.answer;
  did = subst (λ names. Did order.job order.mode names (left task.problem) (map left task.others.items) out finished.answer) named
      (subst (λ (o : Order). Did o.job o.mode (names_in task) (left task.problem) (map left task.others.items) out finished.answer) order_is finished.did);
  status_is = finished.status_is;
}

-- what is reported of a failure
pub told : {W : Type 0} (state : W → SinkState) (P : Failure → Type 0) (failure : Failure) (old new : W) (status : ℕ)
    → P failure → IsStatusOf failure (state old) (state new) status → Prints failure (state old) (state new) status → (failure_status failure ≢ 0 → new ≡ old)
    → Fails P (change state old new) status
told state P failure old new status comes is prints quiet = record {
  failure = failure;
  comes_of = comes;
  status_is = is;
  printed = prints;
  untouched = λ fault. subst (λ w. Keeps (state old).contents (state w).contents) (sym (quiet fault)) (keeps_all (state old).contents);
}

pub not_alone : (takes answer : Bool) (P : Type 0) → answer ≡ takes → answer ≡ true → takes ≡ false → P
not_alone takes answer P is taken alone = absurd cc

-- an order that was tried without standard input was tried
pub tried_anyway : (opens : Opens) (standard : Option (Option (List ℕ))) (order : Order) (out : Change SinkState) (status : ℕ)
    → IsTried opens None order out status → IsTried opens standard order out status
tried_anyway opens standard order out status (inl h) = inl (record {
  problem = h.problem;
  others = h.others;
  problem_is = held_anyway opens standard order.problem h.problem h.problem_is;
  others_are = each_weaker (IsHeldBy opens None) (IsHeldBy opens standard) (held_anyway opens standard) order.others.items h.others h.others_are;
  answer = h.answer;
  did = h.did;
  status_is = h.status_is;
})
tried_anyway opens standard order out status (inr h) = inr h

-- ---- labels

-- the labels of the first names, and of one more
pub labelled-more : {A B : Type 0} (f : A → B) (xs : List A) (i : ℕ) (d : A) → i < length xs → map f (take i xs) ++ f (get_or xs i d) ∷ [] ≡ map f (take (i + 1) xs)
labelled-more f xs i d below = let next : i + 1 ≡ suc i = omega arith in go f xs i d below ∙ ap (λ n. map f (take n xs)) (sym next)
  where
    go : {A B : Type 0} (f : A → B) (xs : List A) (i : ℕ) (d : A) → i < length xs → map f (take i xs) ++ f (get_or xs i d) ∷ [] ≡ map f (take (suc i) xs)
    go f [] i d below = absurd (omega arith)
    go f (x ∷ xs) zero d below = refl
    go f (x ∷ xs) (suc i) d below = ap (λ ys. f x ∷ ys) (go f xs i d (omega arith))
