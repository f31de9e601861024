-- Names, each once, package by package.
use Rattle.std.proofs.Common.{◌≡◌, ℕ, zero, suc, ◌+◌, ◌<◌, ◌≤◌, ◌==◌, Bool, true, false, not, ◌||◌, cond, List, [], ◌∷◌, ◌++◌, length, get_or, map, filter, take, drop, drop-cons, bytes_eq, eq-eqb, ne_eqb, refl, sym, ap, ◌∙◌, arith}
use Rattle.std.specs.Prelude.{Some, nat_lt, position}
use Rattle.std.specs.List.{enumerate_from, flat_map, list_any}
use Rattle.std.proofs.lemmas.Bool.{ltb-false, ltb-true}
use Rattle.std.proofs.lemmas.Grind.{flat_map-append}
use Rattle.std.proofs.lemmas.List.{append-nil, append_assoc, length-append, map-append, take_all, take_more}
use Rattle.std.proofs.lemmas.List.Quantifiers.{position-Some}
use Rattle.indexmap.specs.IndexSet.{insert_all, insert_key}
use Rattle.cudf_problem.specs.Documents.{is_empty}
use Rattle.cudf_problem.specs.Promises.Names.{names_in}
use Rattle.cudf_problem.specs.Universe.{PlainPackage, PlainProblem, package_id}
use Rattle.cudf_index.specs.Satisfaction.{Placed}
use Rattle.cudf_job.specs.declared.criteria.Count.{Count}
use Rattle.cudf_job.specs.declared.criteria.Count.TheVariants.{Removed, New, Changed, NotUpToDate}
use Rattle.cudf_referee.specs.Criteria.{each_once}
use Rattle.cudf_referee.proofs.NameLemmas.{once_push, text_same}
use Rattle.cudf_better.specs.Better.{Item, changed_item, had_package, has_item, items, names, outdated_item}
use Rattle.cudf_better.specs.Working.Sources.{first_names, name_items}

abbrev Name : Type 0
Name = List ℕ

-- ---- tests of lists

pub or_parts : (a b : Bool) → (a || b) ≡ false → (a ≡ false) × (b ≡ false)
or_parts true b h = cc
or_parts false b h = (refl, h)

first_index : {A : Type 0} (p : A → Bool) (xs : List A) (d : A) → list_any p xs ≡ true → (k : ℕ) × (k < length xs) × (p (get_or xs k d) ≡ true)
first_index p [] d h = cc
first_index {A} p (x ∷ xs) d h = by (p x) refl h (first_index p xs d)
  where
    by : (b : Bool) → p x ≡ b → (b || list_any p xs) ≡ true → (list_any p xs ≡ true → (k : ℕ) × (k < length xs) × (p (get_or xs k d) ≡ true)) → (k : ℕ) × (k < length (x ∷ xs)) × (p (get_or (x ∷ xs) k d) ≡ true)
    by true e h more = (0, omega arith, e)
    by false e h more = let found = more h in let lt = found.1 in (suc found.0, omega arith, found.2)

no_index : {A : Type 0} (p : A → Bool) (xs : List A) (d : A) → list_any p xs ≡ false → (k : ℕ) → k < length xs → p (get_or xs k d) ≡ false
no_index p [] d h k lt = absurd (omega arith)
no_index p (x ∷ xs) d h zero lt = (or_parts (p x) (list_any p xs) h).0
no_index p (x ∷ xs) d h (suc k) lt = no_index p xs d (or_parts (p x) (list_any p xs) h).1 k (omega arith)

in_front : {A : Type 0} (xs ys : List A) (k : ℕ) (d : A) → k < length xs → get_or (xs ++ ys) k d ≡ get_or xs k d
in_front [] ys k d lt = absurd (omega arith)
in_front (x ∷ xs) ys zero d lt = refl
in_front (x ∷ xs) ys (suc k) d lt = in_front xs ys k d (omega arith)

at_end : {A : Type 0} (xs ys : List A) (x d : A) → get_or (xs ++ x ∷ ys) (length xs) d ≡ x
at_end [] ys x d = refl
at_end (y ∷ xs) ys x d = at_end xs ys x d

halves : {A : Type 0} (n : ℕ) (xs : List A) → take n xs ++ drop n xs ≡ xs
halves zero xs = refl
halves (suc n) [] = refl
halves (suc n) (x ∷ xs) = ap (λ ys. x ∷ ys) (halves n xs)

-- ---- the number of a name

keys_grow : (ks : List Name) (x : Name) → (more : List Name) × (insert_key bytes_eq ks x ≡ ks ++ more)
keys_grow ks x = by (list_any (bytes_eq x) ks)
  where
    by : (b : Bool) → (more : List Name) × (cond b ks (ks ++ x ∷ []) ≡ ks ++ more)
    by true = ([], sym (append-nil ks))
    by false = (x ∷ [], refl)

all_grow : (ks xs : List Name) → (more : List Name) × (insert_all bytes_eq ks xs ≡ ks ++ more)
all_grow ks [] = ([], sym (append-nil ks))
all_grow ks (x ∷ xs) =
    let one = keys_grow ks x in
    let rest = all_grow (insert_key bytes_eq ks x) xs in
    (one.0 ++ rest.0, rest.1 ∙ ap (λ ns. ns ++ rest.0) one.1 ∙ append_assoc ks one.0 rest.0)

once_all : (ys xs : List Name) → insert_all bytes_eq (each_once ys) xs ≡ each_once (ys ++ xs)
once_all ys [] = ap each_once (sym (append-nil ys))
once_all ys (x ∷ xs) = ap (λ ns. insert_all bytes_eq ns xs) (sym (once_push ys x)) ∙ once_all (ys ++ x ∷ []) xs ∙ ap each_once (append_assoc ys (x ∷ []) xs)

le_from : (m n : ℕ) → (n < m → ⊥) → m ≤ n
le_from m n never = by (nat_lt n m) refl
  where
    by : (b : Bool) → nat_lt n m ≡ b → m ≤ n
    by true e = absurd (never (ltb-true n m e))
    by false e = ltb-false n m e

-- a name is new exactly where its number is how many came before
is_new : (x : Name) (ks more all : List Name) (n : ℕ) → all ≡ insert_key bytes_eq ks x ++ more → Some n ≡ position (bytes_eq x) all → (n == length ks) ≡ not (list_any (bytes_eq x) ks)
is_new x ks more all n is at = by (list_any (bytes_eq x) ks) refl is
  where
    found : (n < length all) × (bytes_eq x (get_or all n []) ≡ true) × ((k : ℕ) → k < n → bytes_eq x (get_or all k []) ≡ false)
    found = position-Some (bytes_eq x) all n [] (sym at)

    never : {P : Type 0} (b : Bool) → b ≡ true → b ≡ false → P
    never true h k = absurd (cc k)
    never false h k = absurd (cc h)

    by : (b : Bool) → list_any (bytes_eq x) ks ≡ b → all ≡ cond b ks (ks ++ x ∷ []) ++ more → (n == length ks) ≡ not b
    by true e is =
        let here = first_index (bytes_eq x) ks [] e in
        let k = here.0 in
        ne_eqb n (length ks)
        (λ same. never (bytes_eq x (get_or all k [])) (ap (λ ns. bytes_eq x (get_or ns k [])) is ∙ ap (bytes_eq x) (in_front ks more k [] here.1) ∙ here.2) (found.2 k (let lt = here.1 in omega arith)))
    by false e is = eq-eqb n (length ks) (omega (arith, low, high))
      where
        whole : all ≡ ks ++ x ∷ more
        whole = is ∙ append_assoc ks (x ∷ []) more

        own : bytes_eq x (get_or all (length ks) []) ≡ true
        own = ap (λ ns. bytes_eq x (get_or ns (length ks) [])) whole ∙ text_same x (get_or (ks ++ x ∷ more) (length ks) []) (sym (at_end ks more x []))

        low : n ≤ length ks
        low = le_from n (length ks) (λ gt. never (bytes_eq x (get_or all (length ks) [])) own (found.2 (length ks) gt))

        high : length ks ≤ n
        high = le_from (length ks) n (λ lt. never (bytes_eq x (get_or all n [])) found.1 (ap (λ ns. bytes_eq x (get_or ns n [])) whole ∙ ap (bytes_eq x) (in_front ks (x ∷ more) n [] lt) ∙ no_index (bytes_eq x) ks [] e n lt))

module _ (problem : PlainProblem) where
  abbrev ps : List PlainPackage
  ps = problem.packages

  abbrev name_of : PlainPackage → Name
  name_of p = p.name

  ids_names : (xs : List PlainPackage) → map (λ id. id.0) (map package_id xs) ≡ map name_of xs
  ids_names [] = refl
  ids_names (x ∷ xs) = ap (λ ns. x.name ∷ ns) (ids_names xs)

  placed_names : (n : ℕ) (xs : List PlainPackage) → map (λ (p : Placed). p.1.name) (enumerate_from n xs) ≡ map name_of xs
  placed_names n [] = refl
  placed_names n (x ∷ xs) = ap (λ ns. x.name ∷ ns) (placed_names (n + 1) xs)

  -- all names, where those of the first packages and the next one stand first
  all_names : (i : ℕ) (p : PlainPackage) → i < length ps → p ≡ get_or ps i p → (more : List Name) × (names_in ps ≡ insert_key bytes_eq (first_names problem i) p.name ++ more)
  all_names i p lt is =
      let rest = map name_of (drop (suc i) ps) in
      let grown = all_grow (insert_key bytes_eq (first_names problem i) p.name) rest in
      let cut : map name_of ps ≡ map name_of (take i ps) ++ p.name ∷ rest =
      ap (map name_of) (sym (halves i ps) ∙ ap (λ qs. take i ps ++ qs) (drop-cons ps i p lt ∙ ap (λ (q : PlainPackage). q ∷ drop (suc i) ps) (sym is)))
      ∙ map-append name_of (take i ps) (p ∷ drop (suc i) ps) in
      (grown.0, once_all [] (map (λ id. id.0) (map package_id ps)) ∙ ap each_once (ids_names ps ∙ cut) ∙ sym (once_all (map name_of (take i ps)) (p.name ∷ rest)) ∙ grown.1)

  next_names : (i : ℕ) (p : PlainPackage) → i < length ps → p ≡ get_or ps i p → first_names problem (i + 1) ≡ insert_key bytes_eq (first_names problem i) p.name
  next_names i p lt is =
      ap each_once
      (ap (map name_of) (take_more ps i p lt ∙ ap (λ (q : PlainPackage). take i ps ++ q ∷ []) (sym is)) ∙ map-append name_of (take i ps) (p ∷ []))
      ∙ once_push (map name_of (take i ps)) p.name

  -- what was added with a name that is new, and with one that isn't
  pub record Added (count : Count) (i met : ℕ) (old now : List Item) : Type 0 where
    pub counted : met ≡ length (first_names problem i)
    pub few : met ≤ i
    pub made : now ≡ old ++ flat_map (name_items problem count) (first_names problem i)

  module _ (count : Count) (i : ℕ) (p : PlainPackage) (n met : ℕ) (old cur : List Item) (lt : i < length ps) (is : p ≡ get_or ps i p) (at : Some n ≡ position (bytes_eq p.name) (names_in ps)) (before : Added count i met old cur) where
    known : (n == met) ≡ not (list_any (bytes_eq p.name) (first_names problem i))
    known =
        let all = all_names i p lt is in
        ap (λ (m : ℕ). n == m) before.counted ∙ is_new p.name (first_names problem i) all.0 (names_in ps) n all.1 at

    pub name_new : (new : List Item) → (n == met) ≡ true → new ≡ cur ++ name_items problem count p.name → Added count (i + 1) (met + 1) old new
    name_new new e put =
        let ks = first_names problem i in
        let fresh : list_any (bytes_eq p.name) ks ≡ false = opposite (list_any (bytes_eq p.name) ks) (sym known ∙ e) in
        let now : first_names problem (i + 1) ≡ ks ++ p.name ∷ [] = next_names i p lt is ∙ ap (λ b. cond b ks (ks ++ p.name ∷ [])) fresh in
        record {
          counted = omega (arith, before.counted, ap length now, length-append ks (p.name ∷ []));
          few = let few = before.few in omega arith;
          made = put ∙ (λ j. before.made j ++ name_items problem count p.name)
              ∙ append_assoc old (flat_map (name_items problem count) ks) (name_items problem count p.name)
              ∙ ap (λ xs. old ++ (flat_map (name_items problem count) ks ++ xs)) (sym (append-nil (name_items problem count p.name)))
              ∙ ap (λ xs. old ++ xs) (sym (flat_map-append (name_items problem count) ks (p.name ∷ [])) ∙ ap (flat_map (name_items problem count)) (sym now));
        }
      where
        opposite : (b : Bool) → not b ≡ true → b ≡ false
        opposite true h = sym h
        opposite false h = refl

    pub name_met : (n == met) ≡ false → Added count (i + 1) met old cur
    name_met e =
        let ks = first_names problem i in
        let there : list_any (bytes_eq p.name) ks ≡ true = opposite (list_any (bytes_eq p.name) ks) (sym known ∙ e) in
        let now : first_names problem (i + 1) ≡ ks = next_names i p lt is ∙ ap (λ b. cond b ks (ks ++ p.name ∷ [])) there in
        record {
          counted = before.counted ∙ ap length (sym now);
          few = let few = before.few in omega arith;
          made = before.made ∙ ap (λ (ns : List Name). old ++ flat_map (name_items problem count) ns) (sym now);
        }
      where
        opposite : (b : Bool) → not b ≡ false → b ≡ true
        opposite true h = refl
        opposite false h = sym h

  pub none_added : (count : Count) (old : List Item) → Added count 0 0 old old
  none_added count old = record { counted = refl; few = omega arith; made = sym (append-nil old) }

  pub all_added : (count : Count) (i met : ℕ) (old now : List Item) → length ps ≤ i → Added count i met old now → now ≡ old ++ flat_map (name_items problem count) (names problem)
  all_added count i met old now end h =
      h.made ∙ ap (λ (ns : List Name). old ++ flat_map (name_items problem count) ns) (ap each_once (ap (map name_of) (take_all i ps end) ∙ sym (placed_names 1 ps)))

  -- ---- the items of a count of names

  kept_if : {A : Type 0} (p : Name → Bool) (f : Name → A) (ns : List Name) → flat_map (λ n. cond (p n) (f n ∷ []) []) ns ≡ map f (filter p ns)
  kept_if p f [] = refl
  kept_if {A} p f (n ∷ ns) = by (p n) (kept_if p f ns)
    where
      by : (b : Bool) → flat_map (λ n. cond (p n) (f n ∷ []) []) ns ≡ map f (filter p ns) → cond b (f n ∷ []) [] ++ flat_map (λ n. cond (p n) (f n ∷ []) []) ns ≡ map f (cond b (n ∷ filter p ns) (filter p ns))
      by true more = ap (λ xs. f n ∷ xs) more
      by false more = more

  kept_unless : {A : Type 0} (p : Name → Bool) (f : Name → A) (ns : List Name) → flat_map (λ n. cond (p n) [] (f n ∷ [])) ns ≡ map f (filter (λ n. not (p n)) ns)
  kept_unless p f [] = refl
  kept_unless {A} p f (n ∷ ns) = by (p n) (kept_unless p f ns)
    where
      by : (b : Bool) → flat_map (λ n. cond (p n) [] (f n ∷ [])) ns ≡ map f (filter (λ n. not (p n)) ns) → cond b [] (f n ∷ []) ++ flat_map (λ n. cond (p n) [] (f n ∷ [])) ns ≡ map f (cond (not b) (n ∷ filter (λ n. not (p n)) ns) (filter (λ n. not (p n)) ns))
      by true more = more
      by false more = ap (λ xs. f n ∷ xs) more

  each_one : {A : Type 0} (f : Name → A) (ns : List Name) → flat_map (λ n. f n ∷ []) ns ≡ map f ns
  each_one f [] = refl
  each_one f (n ∷ ns) = ap (λ xs. f n ∷ xs) (each_one f ns)

  filtered : {A : Type 0} (p : A → Bool) (f : Name → A) (ns : List Name) → map f (filter (λ n. not (p (f n))) ns) ≡ filter (λ x. not (p x)) (map f ns)
  filtered p f [] = refl
  filtered {A} p f (n ∷ ns) = by (p (f n)) (filtered p f ns)
    where
      by : (b : Bool) → map f (filter (λ n. not (p (f n))) ns) ≡ filter (λ x. not (p x)) (map f ns) → map f (cond (not b) (n ∷ filter (λ n. not (p (f n))) ns) (filter (λ n. not (p (f n))) ns)) ≡ cond (not b) (f n ∷ filter (λ x. not (p x)) (map f ns)) (filter (λ x. not (p x)) (map f ns))
      by true more = more
      by false more = ap (λ xs. f n ∷ xs) more

  pub removed_items : flat_map (name_items problem Removed) (names problem) ≡ items problem Removed
  removed_items = kept_if (had_package problem) (has_item problem) (names problem)

  pub new_items : flat_map (name_items problem New) (names problem) ≡ items problem New
  new_items = kept_unless (had_package problem) (has_item problem) (names problem)

  pub changed_items : flat_map (name_items problem Changed) (names problem) ≡ items problem Changed
  changed_items = each_one (changed_item problem) (names problem)

  pub outdated_items : flat_map (name_items problem NotUpToDate) (names problem) ≡ items problem NotUpToDate
  outdated_items =
      kept_unless (λ name. is_empty (outdated_item problem name).some) (outdated_item problem) (names problem)
      ∙ filtered (λ (i : Item). is_empty i.some) (outdated_item problem) (names problem)
