-- What a solution proposes, one stanza after the other, and once they are read.
use Rattle.std.proofs.Common.{◌≡◌, ℕ, suc, ◌+◌, List, [], ◌∷◌, ◌++◌, map, length, filter_map, Option, Some, None, option_map, option_to_list, refl, sym, ap, subst, ◌∙◌, arith}
use Rattle.std.proofs.lemmas.List.{append_assoc, append-nil, length_push}
use Rattle.std.proofs.lemmas.List.Elements.{filter_map-append}
use Rattle.std.specs.List.{flat_map, enumerate_from, cons_option}
use Rattle.cudf_text.specs.declared.fault.Fault.{Fault}
use Rattle.cudf_text.specs.Stanzas.{PlainStanza, PlainText}
use Rattle.cudf_problem.specs.declared.problem.Mode.{Mode}
use Rattle.cudf_document.specs.declared.proposed.SolutionState.{SolutionState}
use Rattle.cudf_document.specs.Faults.{lesser, least}
use Rattle.cudf_problem.specs.Ids.{Id}
use Rattle.cudf_problem.specs.Promises.Statuses.{installed_with, installed_of, installed_stanzas}
use Rattle.cudf_problem.specs.Promises.Views.{unknown_view}
use Rattle.cudf_document.specs.SolutionFaults.{solution_stanza_faults, repeated_pairs_faults, solution_faults}
use Rattle.cudf_problem.specs.Statuses.{installed_id}
use Rattle.cudf_document.specs.Working.DeclaredNames.{AreExtras, names_with}
use Rattle.cudf_document.specs.Working.Pairs.{ArePairs}
use Rattle.cudf_document.specs.Working.InstalledFlags.{pair_of}
use Rattle.cudf_document.specs.Working.Proposed.{IsRead, GoesOn}
use Rattle.cudf_document.proofs.FaultLemmas.{least-append, faults-push}
use Rattle.cudf_problem.proofs.ListLemmas.{as_list}

-- ---- stanzas that install a pair

enumerate-push : {A : Type 0} (n : ℕ) (xs : List A) (x : A) → enumerate_from n (xs ++ x ∷ []) ≡ enumerate_from n xs ++ (n + length xs, x) ∷ []
enumerate-push n [] x = let e : n ≡ n + 0 = omega arith in ap (λ m. (m, x) ∷ []) e
enumerate-push n (y ∷ xs) x =
    let e : n + 1 + length xs ≡ n + suc (length xs) = omega arith in
    ap (λ l. (n, y) ∷ l) (enumerate-push (n + 1) xs x) ∙ ap (λ m. (n, y) ∷ (enumerate_from (n + 1) xs ++ (m, x) ∷ [])) e

installed-push : (seen : List PlainStanza) (s : PlainStanza)
    → installed_stanzas (seen ++ s ∷ []) ≡ installed_stanzas seen ++ option_to_list (option_map (installed_with (1 + length seen) s.line) (installed_id s))
installed-push seen s =
    ap (filter_map installed_of) (enumerate-push 1 seen s)
    ∙ filter_map-append installed_of (enumerate_from 1 seen) ((1 + length seen, s) ∷ [])
    ∙ ap (λ l. installed_stanzas seen ++ l) (sym (as_list (option_map (installed_with (1 + length seen) s.line) (installed_id s))))

-- their pairs
abbrev pub installed_ids : List PlainStanza → List Id
installed_ids stanzas = filter_map installed_id stanzas

pub installed_pairs : (n : ℕ) (stanzas : List PlainStanza) → installed_ids stanzas ≡ map pair_of (filter_map installed_of (enumerate_from n stanzas))
installed_pairs n [] = refl
installed_pairs n (s ∷ stanzas) = by (installed_id s) (installed_pairs (n + 1) stanzas)
  where
    by : (o : Option Id) → installed_ids stanzas ≡ map pair_of (filter_map installed_of (enumerate_from (n + 1) stanzas))
        → cons_option o (installed_ids stanzas) ≡ map pair_of (cons_option (option_map (installed_with n s.line) o) (filter_map installed_of (enumerate_from (n + 1) stanzas)))
    by None rest = rest
    by (Some id) rest = ap (λ l. id ∷ l) rest

-- ---- one more stanza

-- once there is a first stanza, the next one declares nothing more
still_declared : (names : List (List ℕ)) (mode : Mode) (seen : List PlainStanza) (s : PlainStanza)
    → flat_map (solution_stanza_faults mode (names_with names seen)) seen ≡ flat_map (solution_stanza_faults mode (names_with names (seen ++ s ∷ []))) seen
still_declared names mode [] s = refl
still_declared names mode (x ∷ seen) s = refl

pub IsRead-next : (mode : Mode) (names : List (List ℕ)) (old new : SolutionState) (seen : List PlainStanza) (s : PlainStanza) (fault : Option Fault) (id : Option Id)
    → IsRead mode names seen old → AreExtras mode names (seen ++ s ∷ []) new.extras
    → ArePairs mode (seen ++ s ∷ []) new.pairs → fault ≡ least (solution_stanza_faults mode (names_with names (seen ++ s ∷ [])) s) → new.first ≡ lesser old.first fault → id ≡ installed_id s → new.number ≡ old.number + 1
    → map unknown_view new.installed.items ≡ map unknown_view old.installed.items ++ option_to_list (option_map (installed_with new.number s.line) id)
    → IsRead mode names (seen ++ s ∷ []) new
IsRead-next mode names old new seen s fault id so_far extras_are pairs_are fault_is lesser_is id_is number_is installed_is =
    let next : new.number ≡ 1 + length seen = let e = so_far.number_is in omega (arith, e, number_is) in
    record {
      first_is = lesser_is ∙ faults-push (solution_stanza_faults mode (names_with names (seen ++ s ∷ []))) seen s old.first fault
          (so_far.first_is ∙ ap least (still_declared names mode seen s)) fault_is;
      extras_are = extras_are;
      pairs_are = pairs_are;
      number_is = let m = length_push seen s in omega (arith, next, m);
      installed_are = installed_is
          ∙ (λ i. so_far.installed_are i ++ option_to_list (option_map (installed_with (next i) s.line) (id_is i)))
          ∙ sym (installed-push seen s);
    }

-- ---- all of them

-- the first fault is the pairs', the line's or the stanzas'
pub solution_least : (mode : Mode) (names : List (List ℕ)) (text : PlainText) (r : SolutionState) (fault : Option Fault)
    → fault ≡ text.fault → IsRead mode names text.stanzas r → lesser r.pairs.first (lesser fault r.first) ≡ least (solution_faults text mode names)
unfolding solution_faults
solution_least mode names text r fault fault_is read =
    (λ i. lesser (read.pairs_are.first_is i) (lesser (fault_is i) (read.first_is i)))
    ∙ ap (lesser (least pair_faults)) (by text.fault)
    ∙ sym (least-append pair_faults (option_to_list text.fault ++ stanza_faults))
    ∙ ap least (sym (append_assoc pair_faults (option_to_list text.fault) stanza_faults))
  where
    pair_faults : List Fault
    pair_faults = repeated_pairs_faults mode text.stanzas

    stanza_faults : List Fault
    stanza_faults = flat_map (solution_stanza_faults mode (names_with names text.stanzas)) text.stanzas

    by : (f : Option Fault) → lesser f (least stanza_faults) ≡ least (option_to_list f ++ stanza_faults)
    by None = refl
    by (Some f) = refl

-- ---- read from a cursor

pub GoesOn-next : (mode : Mode) (names : List (List ℕ)) (old new : SolutionState) (left later text : PlainText) (s : PlainStanza)
    → GoesOn mode names old left text → ◌≡◌ {A = PlainText} left (record later { stanzas = s ∷ later.stanzas })
    → ((seen : List PlainStanza) → IsRead mode names seen old → IsRead mode names (seen ++ s ∷ []) new)
    → GoesOn mode names new later text
GoesOn-next mode names old new left later text s goes read takes = record {
  seen = goes.seen ++ s ∷ [];
  read = takes goes.seen goes.read;
  whole = (λ i. let t : PlainText = record later { stanzas = append_assoc goes.seen (s ∷ []) later.stanzas i } in t)
      ∙ (λ i. let t : PlainText = record (sym read i) { stanzas = goes.seen ++ (sym read i).stanzas } in t) ∙ goes.whole;
}

-- the text's first faulty line, and all its stanzas are read
pub record IsReadWhole (mode : Mode) (names : List (List ℕ)) (r : SolutionState) (fault : Option Fault) (text : PlainText) : Type 0 where
  pub fault_is : fault ≡ text.fault
  pub read : IsRead mode names text.stanzas r

pub GoesOn-end : (mode : Mode) (names : List (List ℕ)) (r : SolutionState) (left text : PlainText) (fault : Option Fault) (lines : ℕ)
    → GoesOn mode names r left text → ◌≡◌ {A = PlainText} left (record { stanzas = []; fault = fault; lines = lines })
    → IsReadWhole mode names r fault text
GoesOn-end mode names r left text fault lines goes read =
    let end : ◌≡◌ {A = PlainText} (record { stanzas = goes.seen ++ []; fault = fault; lines = lines }) text =
    (λ i. let t : PlainText = record (sym read i) { stanzas = goes.seen ++ (sym read i).stanzas } in t) ∙ goes.whole in
    record {
      fault_is = λ i. (end i).fault;
      read = subst (λ stanzas. IsRead mode names stanzas r) (sym (append-nil goes.seen) ∙ (λ i. (end i).stanzas)) goes.read;
    }
