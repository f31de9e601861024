-- Names of properties, and what the first property of a name says.
use Rattle.std.proofs.Common.{◌≡◌, ℕ, Bool, true, false, not, ◌||◌, List, [], ◌∷◌, ◌++◌, map, Bor, Option, None, Some, is_some, find, length, refl, sym, ap, subst, ◌∙◌, if◌then◌else◌, option_and_then, bytes_eq}
use Rattle.std.proofs.Math.Bool.{or-false}
use Rattle.std.proofs.lemmas.Bool.{true≢false, false_from_ne_true}
use Rattle.std.proofs.lemmas.Slice.Eq.{bytes_eq-Decides}
use Rattle.std.proofs.lemmas.List.{append_assoc, map_push}
use Rattle.std.proofs.lemmas.List.Folds.{list_any-append, find-append}
use Rattle.std.specs.List.{list_any}
use Rattle.std.specs.Option.{option_or}
use Rattle.indexmap.specs.IndexSet.{insert_key}
use Rattle.cudf_text.specs.Stanzas.{PlainProperty}
use Rattle.cudf_document.specs.Working.SeenNames.{AreNames}
use Rattle.cudf_problem.specs.Documents.{has_name, value_of}
use Rattle.cudf_document.specs.Working.Judging.{same_name, lacks_one}
use Rattle.cudf_problem.proofs.ListLemmas.{option_or-none, is_some-find, find_none, list_any-map, list_any-insert_key}

-- ---- equal names

pub same_bytes : (xs ys : List ℕ) → bytes_eq xs ys ≡ true → xs ≡ ys
same_bytes xs ys same = (bytes_eq-Decides xs ys).0 same

-- and so equal lengths
pub other_lengths : (xs ys : List ℕ) → (length xs ≡ length ys → ⊥) → false ≡ bytes_eq xs ys
other_lengths xs ys other = sym (false_from_ne_true (bytes_eq xs ys) (λ h. other (ap length (same_bytes xs ys h))))

pub bytes_same : (xs : List ℕ) → bytes_eq xs xs ≡ true
bytes_same xs = (bytes_eq-Decides xs xs).1 refl

pub bytes_eq-sym : (xs ys : List ℕ) → bytes_eq xs ys ≡ bytes_eq ys xs
bytes_eq-sym xs ys = by (bytes_eq xs ys) (bytes_eq ys xs) refl refl
  where
    by : (a b : Bool) → bytes_eq xs ys ≡ a → bytes_eq ys xs ≡ b → bytes_eq xs ys ≡ bytes_eq ys xs
    by true true p q = p ∙ sym q
    by false false p q = p ∙ sym q
    by true false p q = absurd (true≢false (sym ((bytes_eq-Decides ys xs).1 (sym (same_bytes xs ys p))) ∙ q))
    by false true p q = absurd (true≢false (sym ((bytes_eq-Decides xs ys).1 (sym (same_bytes ys xs q))) ∙ p))

-- ---- a name is one of some words, or another

-- the rest, after what holds at each of the words
abbrev pub Each : (List ℕ → Type 0) → List (List ℕ) → Type 0 → Type 0
Each P [] rest = rest
Each P (word ∷ words) rest = P word → Each P words rest

Each-along : (P : List ℕ → Type 0) (words : List (List ℕ)) {S T : Type 0} → (S → T) → Each P words S → Each P words T
Each-along P [] f each = f each
Each-along P (word ∷ words) f each = λ here. Each-along P words f (each here)

-- what holds at each of the words, and at a name that is none of them, holds at any name
pub by_words : (P : List ℕ → Type 0) (words : List (List ℕ)) (name : List ℕ) → Each P words (Each (λ word. bytes_eq name word ≡ false) words (P name) → P name)
by_words P [] name = λ other. other
by_words P (word ∷ words) name = λ known. Each-along P words (λ rest other. by known (bytes_eq name word) refl (λ differs. rest (other differs))) (by_words P words name)
  where
    by : P word → (b : Bool) → bytes_eq name word ≡ b → (bytes_eq name word ≡ false → P name) → P name
    by known true same other = subst P (sym (same_bytes name word same)) known
    by known false differs other = other differs

-- ---- the names that were seen

pub AreNames-next : (names : List (List ℕ)) (ps : List PlainProperty) (p : PlainProperty) → AreNames names ps → AreNames (insert_key bytes_eq names p.name) (ps ++ p ∷ [])
AreNames-next names ps p are name =
    list_any-insert_key bytes_eq (bytes_eq name) names p.name (λ k same. ap (bytes_eq name) (sym (same_bytes p.name k same)))
    ∙ (λ i. are name i || sym (or-false (bytes_eq name p.name)) i)
    ∙ sym (list_any-append (λ q. bytes_eq name q.name) ps (p ∷ []))

pub AreNames-more : (names : List (List ℕ)) (ps : List PlainProperty) (p : PlainProperty) (more : List PlainProperty) (new_names : List (List ℕ))
    → AreNames names ps → more ≡ ps ++ p ∷ [] → new_names ≡ insert_key bytes_eq names p.name → AreNames new_names more
AreNames-more names ps p more new_names are more_is names_is name =
    ap (list_any (bytes_eq name)) names_is ∙ AreNames-next names ps p are name ∙ ap (list_any (λ q. bytes_eq name q.name)) (sym more_is)

-- ---- names that a stanza has to have

pub any_named : (name : List ℕ) (ps : List PlainProperty) → list_any (λ p. bytes_eq name p.name) ps ≡ list_any (has_name name) ps
any_named name [] = refl
any_named name (p ∷ ps) = (λ i. bytes_eq-sym name p.name i || any_named name ps i)

-- one isn't among the names where no property has it
pub lacks_one-seen : (names : List (List ℕ)) (ps : List PlainProperty) (required : List (List ℕ)) → AreNames names ps
    → list_any (λ name. not (list_any (bytes_eq name) names)) required ≡ lacks_one required ps
lacks_one-seen names ps [] are = refl
lacks_one-seen names ps (name ∷ required) are =
    (λ i. not ((are name ∙ any_named name ps) i) || lacks_one-seen names ps required are i)

-- ---- values

pub has_same_name : (name : List ℕ) (p : PlainProperty) (ps : List PlainProperty) → bytes_eq p.name name ≡ true → list_any (same_name p) ps ≡ list_any (has_name name) ps
has_same_name name p [] same = refl
has_same_name name p (q ∷ ps) same =
    (λ i. (ap (λ n. bytes_eq n q.name) (same_bytes p.name name same) ∙ bytes_eq-sym name q.name) i || has_same_name name p ps same i)

-- a property of another name says nothing
pub value_of-other : {A : Type 0} (read : List ℕ → Option A) (name : List ℕ) (ps : List PlainProperty) (p : PlainProperty)
    → bytes_eq p.name name ≡ false → value_of read name (ps ++ p ∷ []) ≡ value_of read name ps
value_of-other read name ps p other =
    ap (option_and_then (λ q. read q.value))
    (find-append (has_name name) ps (p ∷ []) ∙ ap (λ b. option_or (find (has_name name) ps) (if b then Some p else None)) other ∙ option_or-none (find (has_name name) ps))

-- a property that is the first of its name so far is the first of all
pub find-first : (before later : List PlainProperty) (p : PlainProperty) → list_any (same_name p) before ≡ false → find (has_name p.name) (before ++ p ∷ later) ≡ Some p
find-first before later p new =
    let none : find (has_name p.name) before ≡ None = find_none (has_name p.name) before (sym (has_same_name p.name p before (bytes_same p.name)) ∙ new) in
    find-append (has_name p.name) before (p ∷ later) ∙ (λ i. option_or (none i) (if bytes_same p.name i then Some p else find (has_name p.name) later))

-- the first of its name does
pub value_of-new : {A : Type 0} (read : List ℕ → Option A) (name : List ℕ) (ps : List PlainProperty) (p : PlainProperty)
    → bytes_eq p.name name ≡ true → list_any (same_name p) ps ≡ false → value_of read name (ps ++ p ∷ []) ≡ read p.value
value_of-new read name ps p same new =
    ap (λ n. value_of read n (ps ++ p ∷ [])) (sym (same_bytes p.name name same)) ∙ ap (option_and_then (λ q. read q.value)) (find-first ps [] p new)

-- a repeated one says nothing
pub value_of-repeated : {A : Type 0} (read : List ℕ → Option A) (name : List ℕ) (ps : List PlainProperty) (p : PlainProperty)
    → list_any (same_name p) ps ≡ true → value_of read name (ps ++ p ∷ []) ≡ value_of read name ps
value_of-repeated {A} read name ps p again = by (bytes_eq p.name name) refl
  where
    or_some : {B : Type 0} (x y : Option B) → is_some x ≡ true → option_or x y ≡ x
    or_some None y h = absurd cc
    or_some (Some z) y h = refl

    by : (b : Bool) → bytes_eq p.name name ≡ b → value_of read name (ps ++ p ∷ []) ≡ value_of read name ps
    by false other = value_of-other read name ps p other
    by true same = ap (option_and_then (λ q. read q.value))
        (find-append (has_name name) ps (p ∷ [])
        ∙ or_some (find (has_name name) ps) (find (has_name name) (p ∷ [])) (is_some-find (has_name name) ps ∙ sym (has_same_name name p ps same) ∙ again))

-- the value of a name, with what a property says that is the first of its own
pub value_next : {A : Type 0} (read : List ℕ → Option A) (name : List ℕ) (ps : List PlainProperty) (p : PlainProperty) → list_any (same_name p) ps ≡ false
    → value_of read name (ps ++ p ∷ []) ≡ (if bytes_eq p.name name then read p.value else value_of read name ps)
value_next {A} read name ps p new = by (bytes_eq p.name name) refl
  where
    by : (b : Bool) → bytes_eq p.name name ≡ b → value_of read name (ps ++ p ∷ []) ≡ (if b then read p.value else value_of read name ps)
    by true same = value_of-new read name ps p same new
    by false other = value_of-other read name ps p other

-- ---- the names of a set, the first of them in a list

-- a name is among them where it is among the first or among the others
any_kept : (name : List ℕ) (first rest : List (Bor (List ℕ))) → list_any (bytes_eq name) (map (λ n. n.now) (first ++ rest))
    ≡ (list_any (λ n. bytes_eq name n.now) first || list_any (λ n. bytes_eq name n.now) rest)
any_kept name first rest = list_any-map (λ n. n.now) (bytes_eq name) (first ++ rest) ∙ list_any-append (λ n. bytes_eq name n.now) first rest

-- a name of the first is one of all
pub any_first : (name : List ℕ) (first rest : List (Bor (List ℕ))) → list_any (λ n. bytes_eq name n.now) first ≡ true
    → list_any (bytes_eq name) (map (λ n. n.now) (first ++ rest)) ≡ true
any_first name first rest known = any_kept name first rest ∙ ap (λ b. b || list_any (λ n. bytes_eq name n.now) rest) known

-- any other name is one of all where it is among the others
pub any_rest : (name : List ℕ) (first rest : List (Bor (List ℕ))) → list_any (λ n. bytes_eq name n.now) first ≡ false
    → list_any (bytes_eq name) (map (λ n. n.now) (first ++ rest)) ≡ list_any (λ n. bytes_eq name n.now) rest
any_rest name first rest unknown = any_kept name first rest ∙ ap (λ b. b || list_any (λ n. bytes_eq name n.now) rest) unknown

pub insert_known : (names : List (List ℕ)) (name : List ℕ) → list_any (bytes_eq name) names ≡ true → names ≡ insert_key bytes_eq names name
insert_known names name known = ap (λ b. if b then names else names ++ name ∷ []) (sym known)

-- a new name goes among the others
pub insert_rest : (first rest : List (Bor (List ℕ))) (name : Bor (List ℕ)) → list_any (λ n. bytes_eq name.now n.now) first ≡ false
    → map (λ n. n.now) (first ++ insert_key (λ x y. bytes_eq x.now y.now) rest name) ≡ insert_key bytes_eq (map (λ n. n.now) (first ++ rest)) name.now
insert_rest first rest name unknown =
    by (list_any (λ n. bytes_eq name.now n.now) rest)
    ∙ ap (λ b. if b then map (λ n. n.now) (first ++ rest) else map (λ n. n.now) (first ++ rest) ++ name.now ∷ []) (sym (any_rest name.now first rest unknown))
  where
    by : (b : Bool) → map (λ n. n.now) (first ++ (if b then rest else rest ++ name ∷ []))
        ≡ (if b then map (λ n. n.now) (first ++ rest) else map (λ n. n.now) (first ++ rest) ++ name.now ∷ [])
    by true = refl
    by false = ap (map (λ n. n.now)) (sym (append_assoc first rest (name ∷ []))) ∙ map_push (λ n. n.now) (first ++ rest) name

-- or after the first, where there are no others
pub insert_first : (first : List (Bor (List ℕ))) (name : Bor (List ℕ)) → list_any (λ n. bytes_eq name.now n.now) first ≡ false
    → map (λ n. n.now) ((first ++ name ∷ []) ++ []) ≡ insert_key bytes_eq (map (λ n. n.now) (first ++ [])) name.now
insert_first first name unknown = ap (map (λ n. n.now)) (append_assoc first (name ∷ []) []) ∙ insert_rest first [] name unknown
