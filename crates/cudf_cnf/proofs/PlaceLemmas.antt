-- Places of packages, as numbers and as literals.
use Rattle.std.proofs.Common.{◌≡◌, ℕ, zero, suc, ◌==◌, Bool, true, false, not, ◌&&◌, List, [], ◌∷◌, ◌++◌, map, filter, Option, None, refl, sym, subst, ap, ◌∙◌, arith, if◌then◌else◌}
use Rattle.std.specs.Prelude.{All, Result, Ok, Err, OnOk}
use Rattle.std.proofs.lemmas.List.{append-nil}
use Rattle.std.proofs.lemmas.List.Elements.{All-append, All-cons, All-filter, All-map, All-nil, All-weaker, filter_agree}
use Rattle.cudf_problem.specs.Ids.{Id}
use Rattle.cudf_index.specs.Satisfaction.{Placed, without, meets_clause_alone}
use Rattle.cudf_value.specs.Formulas.{PlainAtom}
use Rattle.cudf_job.specs.Keys.{PlainKey}
use Rattle.cudf_lrat.specs.declared.cnf.Literal.{Literal}
use Rattle.cudf_lrat.specs.Literals.{IsWithin}
use Rattle.cudf_referee.specs.Proposals.{holds_place}
use Rattle.cudf_referee.proofs.ListLemmas.{filter-both, filter-map, none_kept}
use Rattle.cudf_index.specs.Promises.Places.{places_where}
use Rattle.cudf_cnf.specs.Cnf.{Keyed, is_in, is_out, is_subject, needs_clauses, none_of, one_of}
use Rattle.cudf_cnf.specs.Working.Parts.{ArePlaces, Fits, IsPlace, keyed}
use Rattle.cudf_cnf.proofs.TestLemmas.{and-swap}

-- ---- what was put

pub when : {E P Q : Type 0} (r : Result (Unit {0}) E) → OnOk r P → (P → Q) → OnOk r Q
when (Ok u) p f = f p
when (Err e) p f = p

-- the same clauses, said otherwise
pub put_as : {E : Type 0} (r : Result (Unit {0}) E) (new old xs ys : List Keyed) → xs ≡ ys → OnOk r (new ≡ old ++ xs) → OnOk r (new ≡ old ++ ys)
put_as r new old xs ys same h = when r h (λ e. e ∙ ap (λ zs. old ++ zs) same)

-- ---- places

pub map-map : {A B C : Type 0} (f : B → C) (g : A → B) (xs : List A) → map f (map g xs) ≡ map (λ x. f (g x)) xs
map-map f g [] = refl
map-map f g (x ∷ xs) = ap (λ ys. f (g x) ∷ ys) (map-map f g xs)

pub one_of-where : (test : Placed → Bool) (all : List Placed) → map is_in (places_where test all) ≡ one_of test all
one_of-where test all = map-map is_in (λ (q : Placed). q.0) (filter test all)

pub unmapped : (P : ℕ → Type 0) (all : List Placed) → All P (map (λ q. q.0) all) → All (λ (q : Placed). P q.0) all
unmapped P [] h k d inside = absurd (omega arith)
unmapped P (q ∷ qs) h zero d inside = h 0 0 (omega arith)
unmapped P (q ∷ qs) h (suc k) d inside = unmapped P qs (λ j e less. h (suc j) e (omega arith)) k d (omega arith)

-- what is true of all places is true of those of packages that pass a test
pub all_where : (P : ℕ → Type 0) (test : Placed → Bool) (all : List Placed) → All P (map (λ q. q.0) all) → All P (places_where test all)
all_where P test all h = All-map P (λ (q : Placed). q.0) (filter test all) (All-filter test (λ (q : Placed). P q.0) all (unmapped P all h))

-- ---- literals

in_within : (places n : ℕ) → IsPlace places n → IsWithin places (is_in n)
in_within places n p = (p.from_one, p.within)

pub out_within : (places n : ℕ) → IsPlace places n → IsWithin places (is_out n)
out_within places n p = (p.from_one, p.within)

pub one_out : (places n : ℕ) → IsPlace places n → All (IsWithin places) (is_out n ∷ [])
one_out places n p = All-cons (IsWithin places) (is_out n) [] (out_within places n p) (All-nil (IsWithin places))

pub one_in : (places n : ℕ) → IsPlace places n → All (IsWithin places) (is_in n ∷ [])
one_in places n p = All-cons (IsWithin places) (is_in n) [] (in_within places n p) (All-nil (IsWithin places))

-- literals to which places were added
pub places_added : (places : ℕ) (literals more : List Literal) (ns : List ℕ) → All (IsWithin places) literals → ArePlaces places ns → more ≡ literals ++ map is_in ns → All (IsWithin places) more
places_added places literals more ns own fit is =
    subst (λ (ls : List Literal). All (IsWithin places) ls) (sym is)
    (All-append (IsWithin places) literals (map is_in ns) own (All-map (IsWithin places) is_in ns (All-weaker (IsPlace places) (λ n. IsWithin places (is_in n)) (in_within places) ns fit)))

-- no literals
pub none_within : (places : ℕ) (literals : List Literal) → literals ≡ [] → All (IsWithin places) literals
none_within places literals h = subst (λ (ls : List Literal). All (IsWithin places) ls) (sym h) (All-nil (IsWithin places))

-- places that were found
pub found_places : (places : ℕ) (test : Placed → Bool) (all : List Placed) (found : List ℕ) → Fits places all → found ≡ places_where test all → ArePlaces places found
found_places places test all found fit is = subst (λ (ns : List ℕ). ArePlaces places ns) (sym is) (all_where (IsPlace places) test all fit)

pub one_put : {E : Type 0} (r : Result (Unit {0}) E) (new old : List Keyed) (key key' : PlainKey) (l l' : List Literal) → key ≡ key' → l ≡ l' → OnOk r (new ≡ old ++ (key, l) ∷ []) → OnOk r (new ≡ old ++ (key', l') ∷ [])
one_put r new old key key' l l' key_is is = put_as r new old ((key, l) ∷ []) ((key', l') ∷ []) (λ i. (key_is i, is i) ∷ [])

-- ---- each rule

-- a conjunct that the package itself satisfies
pub needs_met : (key : PlainKey) (all : List Placed) (own place : ℕ) (clause : List PlainAtom) (is : Bool) (old : List Keyed) → is ≡ true → is ≡ holds_place (filter (meets_clause_alone clause) all) own → own ≡ place
    → old ≡ old ++ keyed key (needs_clauses all place clause)
needs_met key all own place clause is old e found same =
    sym (append-nil old)
    ∙ (λ i. old ++ keyed key (if (sym e ∙ found ∙ ap (holds_place (filter (meets_clause_alone clause) all)) same) i then [] else (is_out place ∷ one_of (meets_clause_alone clause) all) ∷ []))

-- and one that it doesn't
pub needs_put : (key : PlainKey) (all : List Placed) (own place : ℕ) (clause : List PlainAtom) (is : Bool) → is ≡ false → is ≡ holds_place (filter (meets_clause_alone clause) all) own → own ≡ place
    → (key, is_out place ∷ one_of (meets_clause_alone clause) all) ∷ [] ≡ keyed key (needs_clauses all place clause)
needs_put key all own place clause is e found same =
    (λ i. keyed key (if (sym e ∙ found ∙ ap (holds_place (filter (meets_clause_alone clause) all)) same) i then [] else (is_out place ∷ one_of (meets_clause_alone clause) all) ∷ []))

-- clauses that rule one package out, and two
abbrev pub unit : PlainKey → ℕ → Keyed
unit key n = (key, is_out n ∷ [])

abbrev pub pair : PlainKey → ℕ → ℕ → Keyed
pair key m n = (key, is_out m ∷ is_out n ∷ [])

pub units_where : (key : PlainKey) (test : Placed → Bool) (all : List Placed) → map (unit key) (places_where test all) ≡ keyed key (none_of [] test all)
units_where key test all =
    map-map (unit key) (λ (q : Placed). q.0) (filter test all) ∙ sym (map-map (λ (clause : List Literal). (key, clause)) (λ (q : Placed). is_out q.0 ∷ []) (filter test all))

pub pairs_where : (key : PlainKey) (place : ℕ) (test : Placed → Bool) (all : List Placed) → map (pair key place) (places_where test all) ≡ keyed key (none_of (is_out place ∷ []) test all)
pairs_where key place test all =
    map-map (pair key place) (λ (q : Placed). q.0) (filter test all) ∙ sym (map-map (λ (clause : List Literal). (key, clause)) (λ (q : Placed). is_out place ∷ is_out q.0 ∷ []) (filter test all))

-- no package has the name of no subject
pub no_subject : (key : PlainKey) (all : List Placed) (subject : Option Id) (old new : List Keyed) → subject ≡ None → new ≡ old ++ (key, []) ∷ [] → new ≡ old ++ (key, one_of (is_subject subject) all) ∷ []
no_subject key all subject old new is put =
    put ∙ ap (λ (ls : List Literal). let c : Keyed = (key, ls) in old ++ c ∷ []) (sym (ap (λ (s : Option Id). one_of (is_subject s) all) is ∙ nobody))
  where
    nobody : one_of (is_subject None) all ≡ []
    nobody = ap (map (λ (q : Placed). is_in q.0)) (none_kept (is_subject None) (λ q. refl) all)

filter-swap : {A : Type 0} (p q : A → Bool) (xs : List A) → filter p (filter q xs) ≡ filter q (filter p xs)
filter-swap p q xs = sym (filter-both q p xs) ∙ filter_agree (λ x. q x && p x) (λ x. p x && q x) (λ x. and-swap (q x) (p x)) xs ∙ filter-both p q xs

-- those of an entry of conflicts, where the own place was taken out
pub others_where : (place : ℕ) (test : Placed → Bool) (all : List Placed) → filter (λ n. not (n == place)) (places_where test all) ≡ places_where test (without place all)
others_where place test all =
    filter-map (λ (n : ℕ). not (n == place)) (λ (q : Placed). q.0) (filter test all)
    ∙ ap (map (λ (q : Placed). q.0)) (filter-swap (λ (q : Placed). not (q.0 == place)) test all)

pub all_others : (P : ℕ → Type 0) (place : ℕ) (test : Placed → Bool) (all : List Placed) → All P (map (λ q. q.0) all) → All P (filter (λ n. not (n == place)) (places_where test all))
all_others P place test all h = All-filter (λ n. not (n == place)) P (places_where test all) (all_where P test all h)
