-- The atoms of a formula, one after the other.
use Rattle.std.proofs.Common.{◌≡◌, ℕ, ◌≤◌, Bool, true, false, ◌&&◌, ◌==◌, nat_lt, List, [], ◌∷◌, ◌++◌, map, length, take, position, codes, Option, Some, None, is_some, option_map, unwrap_or, bytes_eq, refl, sym, subst, ap, ◌∙◌}
use Rattle.std.specs.List.{list_all, onto_first, position_or_len}
use Rattle.std.specs.Str.{byte}
use Rattle.std.proofs.lemmas.Bool.{and_parts, or_parts, not-true, false_from_ne_true, ltb-false}
use Rattle.std.proofs.lemmas.Option.{cond_some, same_Some}
use Rattle.std.proofs.lemmas.List.{append-nil, take_all}
use Rattle.std.proofs.lemmas.Slice.Eq.{bytes_eq-Decides}
use Rattle.cudf_text.specs.Chars.{trim}
use Rattle.cudf_value.specs.declared.atom.AtomEnd.{AtomEnd}
use Rattle.cudf_value.specs.declared.atom.AtomEnd.TheVariants.{Text, Comma, Bar}
use Rattle.cudf_value.specs.Vpkgs.{PlainVpkg, vpkg}
use Rattle.cudf_value.specs.Parts.{parts, all_some, read_parts}
use Rattle.cudf_value.proofs.PartsLemmas.{cond_none}
use Rattle.cudf_value.specs.declared.atom.Atom.{Atom}
use Rattle.cudf_value.specs.Formulas.{PlainAtom, named, atom, clause}
use Rattle.cudf_value.specs.Promises.Views.{atom_view}
use Rattle.cudf_value.specs.Lists.{first_list, atoms_in}
use Rattle.cudf_value.specs.Working.Atoms.{atom_part, ends_atom, is_inside, end_text, end_rest, bar_rest, values, values_of}
use Rattle.cudf_value.specs.Working.Rests.{BeginsWith}
use Rattle.cudf_value.proofs.VpkgLemmas.{run_passes}

-- ---- lists put before the first of others

abbrev pub onto : {A : Type 0} → List A → List (List A) → List (List A)
onto [] parts = parts
onto (x ∷ xs) parts = onto_first x (onto xs parts)

onto-cons : {A : Type 0} (xs part : List A) (parts : List (List A)) → onto xs (part ∷ parts) ≡ (xs ++ part) ∷ parts
onto-cons [] part parts = refl
onto-cons (x ∷ xs) part parts = ap (onto_first x) (onto-cons xs part parts)

onto-push : {A : Type 0} (xs : List A) (y : A) (parts : List (List A)) → onto (xs ++ y ∷ []) parts ≡ onto xs (onto_first y parts)
onto-push [] y parts = refl
onto-push (x ∷ xs) y parts = ap (onto_first x) (onto-push xs y parts)

-- ---- cutting a text whose front has no comma and no bar

pub record IsInside (b : ℕ) : Type 0 where
  pub no_comma : (b == byte ",") ≡ false
  pub no_bar : (b == byte "|") ≡ false

pub is-inside : (b : ℕ) → is_inside b ≡ true → IsInside b
is-inside b is =
    let both = or_parts (b == byte ",") (b == byte "|") (not-true _ is) in
    record { no_comma = both.0; no_bar = both.1 }

pub comma-none : (pre : List ℕ) → list_all is_inside pre ≡ true → parts (byte ",") pre ≡ pre ∷ []
comma-none [] all = refl
comma-none (b ∷ pre) all =
    let each = and_parts (is_inside b) (list_all is_inside pre) all in
    let no : (b == byte ",") ≡ false = (is-inside b each.0).no_comma in
    rw no (ap (onto_first b) (comma-none pre each.1))

bar-none : (pre : List ℕ) → list_all is_inside pre ≡ true → parts (byte "|") pre ≡ pre ∷ []
bar-none [] all = refl
bar-none (b ∷ pre) all =
    let each = and_parts (is_inside b) (list_all is_inside pre) all in
    let no : (b == byte "|") ≡ false = (is-inside b each.0).no_bar in
    rw no (ap (onto_first b) (bar-none pre each.1))

pub comma-at : (pre more : List ℕ) → list_all is_inside pre ≡ true → parts (byte ",") (pre ++ byte "," ∷ more) ≡ pre ∷ parts (byte ",") more
comma-at [] more all = refl
comma-at (b ∷ pre) more all =
    let each = and_parts (is_inside b) (list_all is_inside pre) all in
    let no : (b == byte ",") ≡ false = (is-inside b each.0).no_comma in
    rw no (ap (onto_first b) (comma-at pre more each.1))

bar-at : (pre more : List ℕ) → list_all is_inside pre ≡ true → parts (byte "|") (pre ++ byte "|" ∷ more) ≡ pre ∷ parts (byte "|") more
bar-at [] more all = refl
bar-at (b ∷ pre) more all =
    let each = and_parts (is_inside b) (list_all is_inside pre) all in
    let no : (b == byte "|") ≡ false = (is-inside b each.0).no_bar in
    rw no (ap (onto_first b) (bar-at pre more each.1))

-- a bar leaves the clause open
comma-beyond : (pre more : List ℕ) → list_all is_inside pre ≡ true
    → parts (byte ",") (pre ++ byte "|" ∷ more) ≡ onto pre (onto_first (byte "|") (parts (byte ",") more))
comma-beyond [] more all = refl
comma-beyond (b ∷ pre) more all =
    let each = and_parts (is_inside b) (list_all is_inside pre) all in
    let no : (b == byte ",") ≡ false = (is-inside b each.0).no_comma in
    rw no (ap (onto_first b) (comma-beyond pre more each.1))

-- a cut has a first part
record HasFirst (ps : List (List ℕ)) : Type 0 where
  first : List ℕ
  rest : List (List ℕ)
  is : ps ≡ first ∷ rest

onto-has_first : (b : ℕ) (ps : List (List ℕ)) → HasFirst (onto_first b ps)
onto-has_first b [] = record { first = b ∷ []; rest = []; is = refl }
onto-has_first b (p ∷ ps) = record { first = b ∷ p; rest = ps; is = refl }

has_first : (text : List ℕ) → HasFirst (parts (byte ",") text)
has_first [] = record { first = []; rest = []; is = refl }
has_first (b ∷ text) = by (b == byte ",") refl
  where
    by : (x : Bool) → (b == byte ",") ≡ x → HasFirst (parts (byte ",") (b ∷ text))
    by true e = rw e (record { first = []; rest = parts (byte ",") text; is = refl })
    by false e = rw e (onto-has_first b (parts (byte ",") text))

abbrev atoms_of : List ℕ → List (Option PlainAtom)
atoms_of part = map atom_part (parts (byte "|") part)

beyond : (pre : List ℕ) (ps : List (List ℕ)) → list_all is_inside pre ≡ true → HasFirst ps
    → map atoms_of (onto pre (onto_first (byte "|") ps)) ≡ onto_first (atom_part pre) (map atoms_of ps)
beyond pre ps all h =
    rw h.is
    (ap (map atoms_of) (onto-cons pre (byte "|" ∷ h.first) h.rest)
    ∙ ap (λ qs. map atom_part qs ∷ map atoms_of h.rest) (bar-at pre h.first all))

-- the values of a text whose first atom comes before this end
pub values_cut : (pre : List ℕ) (end : AtomEnd) → list_all is_inside pre ≡ true → values (pre ++ end_text end) ≡ values_of (atom_part pre) end
values_cut pre Text all =
    ap values (append-nil pre) ∙ ap (map atoms_of) (comma-none pre all) ∙ ap (λ qs. map atom_part qs ∷ []) (bar-none pre all)
values_cut pre (Comma more) all =
    ap (map atoms_of) (comma-at pre more.now all) ∙ ap (λ qs. map atom_part qs ∷ values more.now) (bar-none pre all)
values_cut pre (Bar more) all =
    ap (map atoms_of) (comma-beyond pre more.now all) ∙ beyond pre (parts (byte ",") more.now) all (has_first more.now)

-- ---- the first atom is a vpkg

-- a constant is no vpkg
other_text : (text constant : List ℕ) (v : PlainVpkg) → vpkg text ≡ Some v → vpkg constant ≡ None → bytes_eq text constant ≡ false
other_text text constant v is none =
    false_from_ne_true (bytes_eq text constant) (λ h.
    let never : None ≡ Some v = sym none ∙ ap vpkg (sym ((bytes_eq-Decides text constant).0 h)) ∙ is in
    absurd cc)

no_yes : vpkg (codes "true!") ≡ None
unfolding vpkg
no_yes = refl

no_no : vpkg (codes "false!") ≡ None
unfolding vpkg
no_no = refl

-- so the atom is the vpkg
atom_is : (text : List ℕ) (v : PlainVpkg) → vpkg text ≡ Some v → atom text ≡ Some (named v)
atom_is text v is =
    rw (
      other_text text (codes "true!") v is no_yes,
      other_text text (codes "false!") v is no_no,
      is,
    )
    refl

pub values_begun : (v : PlainVpkg) (text rest : List ℕ) (end : AtomEnd) → BeginsWith v text rest → rest ≡ end_text end → values text ≡ values_of (Some (named v)) end
values_begun v text rest end begins ends =
    ap values (begins.whole ∙ ap (λ t. begins.part ++ t) ends)
    ∙ values_cut begins.part end begins.inside
    ∙ ap (λ a. values_of a end) (atom_is (trim begins.part) v begins.value)

-- the front of a text, up to the first comma or bar
pub inside_found : (text : List ℕ) (n : ℕ) → position ends_atom text ≡ Some n → list_all is_inside (take n text) ≡ true
inside_found text n found =
    let at = cond_some (nat_lt (position_or_len ends_atom text) (length text)) _ n found in
    rw (sym at.1) (run_passes is_inside text)

pub inside_none : (text : List ℕ) → position ends_atom text ≡ None → list_all is_inside text ≡ true
inside_none text none =
    let all : length text ≤ position_or_len ends_atom text = ltb-false _ _ (cond_none (nat_lt (position_or_len ends_atom text) (length text)) _ none) in
    ap (list_all is_inside) (sym (take_all (position_or_len ends_atom text) text all)) ∙ run_passes is_inside text

-- ---- reading the values

abbrev read : List (List (Option PlainAtom)) → Option (List (List PlainAtom))
read vs = all_some (map all_some vs)

read-parts : (ps : List (List ℕ)) → map clause ps ≡ map all_some (map atoms_of ps)
read-parts [] = refl
read-parts (p ∷ ps) = ap (λ cs. clause p ∷ cs) (read-parts ps)

abbrev pub formula_in : List ℕ → Option (List (List PlainAtom))
formula_in text = read_parts (byte ",") clause text

read-values : (text : List ℕ) → formula_in text ≡ read (values text)
read-values text = ap all_some (read-parts (parts (byte ",") text))

none-first : (vs : List (List (Option PlainAtom))) → read (onto_first None vs) ≡ None
none-first [] = refl
none-first (v ∷ vs) = refl

both-some : (a : PlainAtom) (c : List PlainAtom) (cs : Option (List (List PlainAtom)))
    → option_map (λ xs. (a ∷ c) ∷ xs) cs ≡ option_map (onto_first a) (option_map (λ xs. c ∷ xs) cs)
both-some a c None = refl
both-some a c (Some cs) = refl

some-first : (a : PlainAtom) (vs : List (List (Option PlainAtom))) → read (onto_first (Some a) vs) ≡ option_map (onto_first a) (read vs)
some-first a [] = refl
some-first a (v ∷ vs) = by (all_some v)
  where
    by : (c : Option (List PlainAtom)) → all_some (option_map (λ xs. a ∷ xs) c ∷ map all_some vs) ≡ option_map (onto_first a) (all_some (c ∷ map all_some vs))
    by None = refl
    by (Some c) = both-some a c (read vs)

-- what is read of a text with an atom in front
read-none : (end : AtomEnd) → read (values_of None end) ≡ None
read-none Text = refl
read-none (Comma more) = refl
read-none (Bar more) = none-first (values more.now)

formula-is : (text : List ℕ) (atom : Option PlainAtom) (end : AtomEnd) → values text ≡ values_of atom end → formula_in text ≡ read (values_of atom end)
formula-is text atom end cut = read-values text ∙ ap read cut

-- ---- a clause, atom by atom

-- a judged clause begins with an atom, and what is left after it is judged too
pub record AtomTaken (all : Option (List PlainAtom)) (a : PlainAtom) (left : Option (List PlainAtom)) : Type 0 where
  pub sound : is_some left ≡ true
  pub whole : unwrap_or all [] ≡ a ∷ unwrap_or left []

first-of : (a : PlainAtom) (cs : Option (List (List PlainAtom))) → is_some (option_map first_list (option_map (λ xs. (a ∷ []) ∷ xs) cs)) ≡ true
    → AtomTaken (option_map first_list (option_map (λ xs. (a ∷ []) ∷ xs) cs)) a (Some [])
first-of a None sound = absurd cc
first-of a (Some cs) sound = record { sound = refl; whole = refl }

first-onto : (a : PlainAtom) (cs : Option (List (List PlainAtom))) → is_some (option_map first_list (option_map (onto_first a) cs)) ≡ true
    → AtomTaken (option_map first_list (option_map (onto_first a) cs)) a (option_map first_list cs)
first-onto a None sound = absurd cc
first-onto a (Some []) sound = record { sound = refl; whole = refl }
first-onto a (Some (c ∷ cs)) sound = record { sound = refl; whole = refl }

abbrev clause_in : Option (List (List PlainAtom)) → Option (List PlainAtom)
clause_in cs = option_map first_list cs

taken-at : (a : PlainAtom) (end : AtomEnd) → is_some (clause_in (read (values_of (Some a) end))) ≡ true
    → AtomTaken (clause_in (read (values_of (Some a) end))) a (atoms_in (bar_rest end))
taken-at a Text sound = record { sound = refl; whole = refl }
taken-at a (Comma more) sound = first-of a (read (values more.now)) sound
taken-at a (Bar more) sound =
    let is : read (onto_first (Some a) (values more.now)) ≡ option_map (onto_first a) (formula_in more.now)
    = some-first a (values more.now) ∙ ap (option_map (onto_first a)) (sym (read-values more.now)) in
    rw is (first-onto a (formula_in more.now) (ap (λ cs. is_some (clause_in cs)) (sym is) ∙ sound))

-- what an iterator over these atoms gives
pub record AtomStep (text : List ℕ) (atom : Option Atom) (end : AtomEnd) : Type 0 where
  pub sound : is_some (atoms_in (bar_rest end)) ≡ true
  pub taken : (a : Atom) → atom ≡ Some a → AtomTaken (atoms_in (Some text)) (atom_view a) (atoms_in (bar_rest end))
  pub some : is_some atom ≡ true

pub atom_step : (text : List ℕ) (atom : Option Atom) (end : AtomEnd) → values text ≡ values_of (option_map atom_view atom) end
    → is_some (atoms_in (Some text)) ≡ true → AtomStep text atom end
atom_step text None end cut sound =
    let none : formula_in text ≡ None = formula-is text None end cut ∙ read-none end in
    let never : is_some (clause_in None) ≡ true = ap (λ cs. is_some (clause_in cs)) (sym none) ∙ sound in
    absurd cc
atom_step text (Some atom) end cut sound =
    let is : formula_in text ≡ read (values_of (Some (atom_view atom)) end) = formula-is text (Some (atom_view atom)) end cut in
    let taken = taken-at (atom_view atom) end (ap (λ cs. is_some (clause_in cs)) (sym is) ∙ sound) in
    let same : AtomTaken (atoms_in (Some text)) (atom_view atom) (atoms_in (bar_rest end)) = rw is taken in
    record {
      sound = taken.sound;
      taken = λ a e. subst (λ x. AtomTaken (atoms_in (Some text)) (atom_view x) (atoms_in (bar_rest end))) (same_Some atom a e) same;
      some = refl;
    }

-- a clause is alone in its text, so its atoms are those up to the first comma
pub alone_atoms : (text : List ℕ) → parts (byte ",") text ≡ text ∷ [] → atoms_in (Some text) ≡ clause text
alone_atoms text alone = rw alone (first-alone (clause text))
  where
    first-alone : (c : Option (List PlainAtom)) → clause_in (all_some (c ∷ [])) ≡ c
    first-alone None = refl
    first-alone (Some c) = refl

-- ---- a formula, judged

pub is_some-map : {A B : Type 0} (f : A → B) (x : Option A) → is_some (option_map f x) ≡ is_some x
is_some-map f None = refl
is_some-map f (Some x) = refl

abbrev pub judged_after : Option (List ℕ) → Bool
judged_after None = true
judged_after (Some text) = is_some (formula_in text)

judged-end : (a : PlainAtom) (end : AtomEnd) → is_some (read (values_of (Some a) end)) ≡ judged_after (end_rest end)
judged-end a Text = refl
judged-end a (Comma more) = is_some-map (λ cs. (a ∷ []) ∷ cs) (read (values more.now)) ∙ ap is_some (sym (read-values more.now))
judged-end a (Bar more) =
    ap is_some (some-first a (values more.now)) ∙ is_some-map (onto_first a) (read (values more.now)) ∙ ap is_some (sym (read-values more.now))

judged_step : (rest : List ℕ) (atom : Option PlainAtom) (end : AtomEnd) → values rest ≡ values_of atom end
    → is_some (formula_in rest) ≡ (is_some atom && judged_after (end_rest end))
judged_step rest None end cut = ap is_some (formula-is rest None end cut ∙ read-none end)
judged_step rest (Some a) end cut = ap is_some (formula-is rest (Some a) end cut) ∙ judged-end a end

pub judged_none : (rest : List ℕ) (atom : Option PlainAtom) (end : AtomEnd) → values rest ≡ values_of atom end → is_some atom ≡ false → is_some (formula_in rest) ≡ false
judged_none rest atom end cut none = judged_step rest atom end cut ∙ ap (λ b. b && judged_after (end_rest end)) none

pub judged_some : (rest : List ℕ) (atom : Option PlainAtom) (end : AtomEnd) → values rest ≡ values_of atom end → is_some atom ≡ true
    → is_some (formula_in rest) ≡ judged_after (end_rest end)
judged_some rest atom end cut some = judged_step rest atom end cut ∙ ap (λ b. b && judged_after (end_rest end)) some
