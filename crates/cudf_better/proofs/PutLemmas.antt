-- Definitions put out one after the other.
use Rattle.std.specs.Prelude.{nat_le, Bool, true, false, cond, ◌&&◌, ◌||◌, ◌==◌}
use Rattle.std.proofs.lemmas.Bool.{eqb-true}
use Rattle.std.proofs.lemmas.Bool.Decides.{nat_tests}
use Rattle.std.proofs.Common.{◌≡◌, ◌⊎◌, inl, inr, ⊎_elim, ℕ, zero, suc, ◌+◌, ◌-◌, ◌<◌, ◌≤◌, List, [], ◌∷◌, ◌++◌, length, map, min, take, drop, get_or, refl, sym, subst, ap, ◌∙◌, arith}
use Rattle.std.specs.List.{flat_map, range_with_len}
use Rattle.std.proofs.lemmas.Grind.{flat_map-append, pow_more}
use Rattle.std.proofs.Common.{drop-cons}
use Rattle.std.proofs.lemmas.List.{drop_all, append-nil, append_assoc, length-append, length-drop, drop-take, map-append, take_all}
use Rattle.std.proofs.lemmas.List.{take-take}
use Rattle.std.proofs.Common.{◌^◌}
use Rattle.cudf_lrat.specs.declared.cnf.Literal.{Literal}
use Rattle.cudf_lrat.specs.Steps.{negated}
use Rattle.std.specs.Prelude.{Option, Some, None}
use Rattle.std.specs.Option.{option_map_or}
use Rattle.cudf_cnf.specs.Cnf.{is_in, is_out}
use Rattle.cudf_better.proofs.CardinalityLemmas.{length_sums}
use Rattle.cudf_better.specs.Cardinality.{AtMost, Dnf, Network, counter, lexicographic_clauses, next_variable, strict_of, added, at_least, both_of, clauses_from, compared, evens, defining_clauses, joined, merged, sorted, sum_definition, sums}
use Rattle.cudf_better.specs.Working.Definitions.{IsBounded, IsOver, IsPut, IsRest, IsStrict, Puts, Reaches, Rests, ended, PlainDefinitions, is_direct, single, with_clauses, with_constraint, with_constraints, with_terms, with_definitions}

pub range_push : (a n : ℕ) → range_with_len a (n + 1) ≡ range_with_len a n ++ (a + n) ∷ []
range_push a n = ap (range_with_len a) {x = n + 1} {y = suc n} (omega arith) ∙ by a n
  where
    by : (a n : ℕ) → range_with_len a (suc n) ≡ range_with_len a n ++ (a + n) ∷ []
    by a zero = ap (λ (m : ℕ). m ∷ []) {x = a} {y = a + 0} (omega arith)
    by a (suc n) = ap (λ ns. a ∷ ns) (by (a + 1) n ∙ ap (λ (m : ℕ). range_with_len (a + 1) n ++ m ∷ []) {x = a + 1 + n} {y = a + suc n} (omega arith))

-- ---- too many variables

abbrev next_of : PlainDefinitions → ℕ
next_of g = g.next

over_more : (g after : PlainDefinitions) (net : Network) (before now : List ℕ) → Puts net g before after now → IsOver g → IsOver after
over_more g after net before now (inl put) over = omega (arith, over, ap next_of put.definitions)
over_more g after net before now (inr many) over = many.1

ended_is : (g after : PlainDefinitions) → after ≡ ended g → (after ≡ record g { next = g.next + 1 }) ⊎ (IsOver g × IsOver after)
ended_is g after e = by (nat_le (g.next + 1) 4294967295) refl
  where
    least : g.next + 1 ≤ 4294967295 → min (g.next + 1) 4294967295 ≡ g.next + 1
    least le = omega arith

    by : (b : Bool) → nat_le (g.next + 1) 4294967295 ≡ b → (after ≡ record g { next = g.next + 1 }) ⊎ (IsOver g × IsOver after)
    by true h = let le : g.next + 1 ≤ 4294967295 = grind (arith, nat_tests) in inl (e ∙ (λ i. record g { next = least le i }))
    by false h = let gt : 4294967295 < g.next + 1 = grind (arith, nat_tests) in inr (omega arith, omega (arith, ap next_of e))

-- ---- terms

-- term more
pub terms_more : (g : PlainDefinitions) (xs ys : Dnf) → with_terms (with_terms g xs) ys ≡ with_terms g (xs ++ ys)
terms_more g xs ys = ap (λ cs. record { next = g.next; clauses = cs })
    (append_assoc g.clauses (defining_clauses g.next xs) (defining_clauses g.next ys) ∙ ap (λ cs. g.clauses ++ cs) (sym (map-append (λ term. map negated term ++ is_in g.next ∷ []) xs ys)))

pub sum_more : (g : PlainDefinitions) (xs ys : List ℕ) (total i : ℕ)
    → let f = λ (k : ℕ). both_of (at_least k xs) (at_least (total - k) ys) in
    with_terms (with_terms g (flat_map f (range_with_len 0 i))) (f i) ≡ with_terms g (flat_map f (range_with_len 0 (i + 1)))
sum_more g xs ys total i =
    let f = λ (k : ℕ). both_of (at_least k xs) (at_least (total - k) ys) in
    terms_more g (flat_map f (range_with_len 0 i)) (f i)
    ∙ ap (with_terms g)
    (ap (λ (k : ℕ). flat_map f (range_with_len 0 i) ++ f k) {x = i} {y = 0 + i} (omega arith)
    ∙ ap (λ ls. flat_map f (range_with_len 0 i) ++ ls) (sym (append-nil (f (0 + i))))
    ∙ sym (flat_map-append f (range_with_len 0 i) ((0 + i) ∷ [])) ∙ ap (flat_map f) (sym (range_push 0 i)))

-- a definition more
clauses_push : (next : ℕ) (definitions : List Dnf) (definition : Dnf) → clauses_from next (definitions ++ definition ∷ []) ≡ clauses_from next definitions ++ defining_clauses (next + length definitions) definition
clauses_push next [] definition = append-nil (defining_clauses next definition) ∙ ap (λ (n : ℕ). defining_clauses n definition) {x = next} {y = next + 0} (omega arith)
clauses_push next (g ∷ definitions) definition =
    ap (λ cs. defining_clauses next g ++ cs) (clauses_push (next + 1) definitions definition ∙ ap (λ (n : ℕ). clauses_from (next + 1) definitions ++ defining_clauses n definition) {x = next + 1 + length definitions} {y = next + suc (length definitions)} (omega arith))
    ∙ sym (append_assoc (defining_clauses next g) (clauses_from (next + 1) definitions) (defining_clauses (next + suc (length definitions)) definition))

pub definitions_more : (g : PlainDefinitions) (definitions : List Dnf) (definition : Dnf) (after : PlainDefinitions) → after ≡ record (with_terms (with_definitions g definitions) definition) { next = g.next + length definitions + 1 } → after ≡ with_definitions g (definitions ++ definition ∷ [])
definitions_more g definitions definition after e =
    e ∙ (λ i. record {
      next = number i;
      clauses = (append_assoc g.clauses (clauses_from g.next definitions) (defining_clauses (g.next + length definitions) definition) ∙ ap (λ cs. g.clauses ++ cs) (sym (clauses_push g.next definitions definition))) i;
    })
  where
    number : g.next + length definitions + 1 ≡ g.next + length (definitions ++ definition ∷ [])
    number = omega (arith, length-append definitions (definition ∷ []))

pub sum_last : (g : PlainDefinitions) (xs ys : List ℕ) (total i : ℕ) → i ≡ total
    → with_terms (with_terms g (flat_map (λ (k : ℕ). both_of (at_least k xs) (at_least (total - k) ys)) (range_with_len 0 i))) (both_of (at_least i xs) (at_least (total - i) ys)) ≡ with_terms g (sum_definition xs ys total)
sum_last g xs ys total i e = sum_more g xs ys total i ∙ ap (λ (n : ℕ). with_terms g (flat_map (λ (k : ℕ). both_of (at_least k xs) (at_least (total - k) ys)) (range_with_len 0 (n + 1)))) e

-- a sum more
pub sums_more : (g : PlainDefinitions) (xs ys : List ℕ) (total : ℕ) (after : PlainDefinitions)
    → after ≡ record (with_terms (with_definitions g (map (sum_definition xs ys) (range_with_len 1 total))) (sum_definition xs ys (total + 1))) { next = g.next + length (map (sum_definition xs ys) (range_with_len 1 total)) + 1 }
    → after ≡ with_definitions g (map (sum_definition xs ys) (range_with_len 1 (total + 1)))
sums_more g xs ys total after e =
    definitions_more g (map (sum_definition xs ys) (range_with_len 1 total)) (sum_definition xs ys (total + 1)) after e
    ∙ ap (with_definitions g) (ap (λ (n : ℕ). map (sum_definition xs ys) (range_with_len 1 total) ++ sum_definition xs ys n ∷ []) {x = total + 1} {y = 1 + total} (omega arith) ∙ sym (map-append (sum_definition xs ys) (range_with_len 1 total) ((1 + total) ∷ [])) ∙ ap (map (sum_definition xs ys)) (sym (range_push 1 total)))

pub outputs_more : (put out more : List ℕ) (next total variable : ℕ) → out ≡ put ++ range_with_len next total → variable ≡ next + total → more ≡ out ++ variable ∷ [] → more ≡ put ++ range_with_len next (total + 1)
outputs_more put out more next total variable before is added =
    added ∙ (λ i. before i ++ is i ∷ []) ∙ append_assoc put (range_with_len next total) ((next + total) ∷ []) ∙ ap (λ ns. put ++ ns) (sym (range_push next total))

pub added_sums : (most next : ℕ) (xs ys : List ℕ) (n : ℕ) → n ≡ min most (length xs + length ys) → sums next xs ys n ≡ added most next xs ys
unfolding added
added_sums most next xs ys n e = ap (sums next xs ys) e

pub sums_puts : (g cur closed after : PlainDefinitions) (xs ys out more : List ℕ) (total variable : ℕ) → Puts (sums g.next xs ys total) g [] cur out
    → closed ≡ with_terms cur (sum_definition xs ys (total + 1)) → after ≡ ended closed → variable ≡ closed.next → more ≡ out ++ variable ∷ [] → Puts (sums g.next xs ys (total + 1)) g [] after more
sums_puts g cur closed after xs ys out more total variable (inr many) close end is push =
    inr (omega (arith, many.0, length_sums xs ys total 1, length_sums xs ys (total + 1) 1), omega (arith, many.1, ap next_of close, ap next_of end))
sums_puts g cur closed after xs ys out more total variable (inl put) close end is push =
    let summed = close ∙ ap (λ (g : PlainDefinitions). with_terms g (sum_definition xs ys (total + 1))) put.definitions in
    ⊎_elim
    (λ exact. inl (record {
      definitions = sums_more g xs ys total after (exact ∙ ap (λ (g : PlainDefinitions). record g { next = g.next + 1 }) summed);
      outputs = outputs_more [] out more g.next total variable put.outputs (is ∙ ap next_of summed ∙ ap (λ (n : ℕ). g.next + n) (length_sums xs ys total 1)) push;
    }))
    (λ many. inr (omega (arith, many.0, ap next_of summed, length_sums xs ys total 1, length_sums xs ys (total + 1) 1), many.1))
    (ended_is closed after end)

-- every second
pub evens_step : (xs : List ℕ) (i : ℕ) → i + 1 < length xs → evens (drop i xs) ≡ get_or xs i 0 ∷ evens (drop (i + 1 + 1) xs)
unfolding evens
evens_step xs i lt =
    ap evens (drop-cons xs i 0 (omega arith) ∙ ap (λ ys. get_or xs i 0 ∷ ys) (drop-cons xs (suc i) 0 (omega arith)))
    ∙ ap (λ (n : ℕ). get_or xs i 0 ∷ evens (drop n xs)) {x = suc (suc i)} {y = i + 1 + 1} (omega arith)

pub evens_last : (xs : List ℕ) (i : ℕ) → i + 1 ≡ length xs → evens (drop i xs) ≡ get_or xs i 0 ∷ evens (drop (i + 1) xs)
unfolding evens
evens_last xs i end =
    ap evens (drop-cons xs i 0 (omega arith) ∙ ap (λ ys. get_or xs i 0 ∷ ys) (drop_all (suc i) xs (omega arith)))
    ∙ ap (λ ys. get_or xs i 0 ∷ evens ys) (sym (drop_all (i + 1) xs (omega arith)))

-- ---- compared

-- with both definitions of two outputs
abbrev pub with_two : PlainDefinitions → ℕ → ℕ → PlainDefinitions
with_two g x y =
    let a = with_terms (with_terms g ((is_in x ∷ []) ∷ [])) ((is_in y ∷ []) ∷ []) in
    let b = with_terms (record a { next = a.next + 1 }) ((is_in x ∷ is_in y ∷ []) ∷ []) in
    record b { next = b.next + 1 }

two_then : (g : PlainDefinitions) (x y : ℕ) (xs ys : List ℕ) → with_definitions g (compared g.next (x ∷ xs) (y ∷ ys)).definitions ≡ with_definitions (with_two g x y) (compared (g.next + 1 + 1) xs ys).definitions
unfolding compared
two_then g x y xs ys =
    let n : g.next + 2 ≡ g.next + 1 + 1 = omega arith in
    let rest = (compared (g.next + 1 + 1) xs ys).definitions in
    let one = (negated (is_in x) ∷ is_in g.next ∷ []) in
    let other = (negated (is_in y) ∷ is_in g.next ∷ []) in
    let both = (negated (is_in x) ∷ negated (is_in y) ∷ is_in (g.next + 1) ∷ []) in
    (λ i. with_definitions g (((is_in x ∷ []) ∷ (is_in y ∷ []) ∷ []) ∷ ((is_in x ∷ is_in y ∷ []) ∷ []) ∷ (compared (n i) xs ys).definitions))
    ∙ (λ i. record {
      next = number (length rest) i;
      clauses = regroup g.clauses one other both (clauses_from (g.next + 1 + 1) rest) i;
    })
  where
    number : (m : ℕ) → g.next + suc (suc m) ≡ g.next + 1 + 1 + m
    number m = omega arith

    regroup : (cs : List (List Literal)) (a b c : List Literal) (rest : List (List Literal)) → cs ++ (a ∷ b ∷ c ∷ rest) ≡ (((cs ++ a ∷ []) ++ b ∷ []) ++ c ∷ []) ++ rest
    regroup cs a b c rest = simp append_assoc

two_outputs : (g : PlainDefinitions) (x y : ℕ) (xs ys : List ℕ) → (compared g.next (x ∷ xs) (y ∷ ys)).outputs ≡ g.next ∷ (g.next + 1) ∷ (compared (g.next + 1 + 1) xs ys).outputs
unfolding compared
two_outputs g x y xs ys = ap (λ (n : ℕ). g.next ∷ (g.next + 1) ∷ (compared n xs ys).outputs) {x = g.next + 2} {y = g.next + 1 + 1} (omega arith)

at_index : (xs : List ℕ) (i : ℕ) → i < length xs → drop i xs ≡ get_or xs i 0 ∷ drop (i + 1) xs
at_index xs i lt = drop-cons xs i 0 lt ∙ ap (λ (n : ℕ). get_or xs i 0 ∷ drop n xs) {x = suc i} {y = i + 1} (omega arith)

pub compared_step : (before : PlainDefinitions) (put : List ℕ) (whole : Network) (g : PlainDefinitions) (out xs ys : List ℕ) (i : ℕ) → i < length xs → i < length ys
    → IsRest before put whole g out (compared g.next (drop i xs) (drop i ys)) → (after : PlainDefinitions) → after ≡ with_two g (get_or xs i 0) (get_or ys i 0) → (more : List ℕ) → more ≡ (out ++ g.next ∷ []) ++ (g.next + 1) ∷ []
    → IsRest before put whole after more (compared after.next (drop (i + 1) xs) (drop (i + 1) ys))
compared_step before put whole g out xs ys i in_xs in_ys h after is more made =
    let x = get_or xs i 0 in
    let y = get_or ys i 0 in
    let lists = λ (j : ℕ). compared g.next in
    record {
      definitions = h.definitions ∙ (λ j. with_definitions g (compared g.next (at_index xs i in_xs j) (at_index ys i in_ys j)).definitions) ∙ two_then g x y (drop (i + 1) xs) (drop (i + 1) ys)
          ∙ ap (λ (a : PlainDefinitions). with_definitions a (compared a.next (drop (i + 1) xs) (drop (i + 1) ys)).definitions) (sym is);
      outputs = h.outputs ∙ (λ j. out ++ (compared g.next (at_index xs i in_xs j) (at_index ys i in_ys j)).outputs) ∙ ap (λ ps. out ++ ps) (two_outputs g x y (drop (i + 1) xs) (drop (i + 1) ys))
          ∙ regroup out g.next (g.next + 1) (compared (g.next + 1 + 1) (drop (i + 1) xs) (drop (i + 1) ys)).outputs
          ∙ (λ j. sym made j ++ (compared (ap (λ (a : PlainDefinitions). a.next) (sym is) j) (drop (i + 1) xs) (drop (i + 1) ys)).outputs);
    }
  where
    regroup : (out : List ℕ) (a b : ℕ) (rest : List ℕ) → out ++ (a ∷ b ∷ rest) ≡ ((out ++ a ∷ []) ++ b ∷ []) ++ rest
    regroup out a b rest = simp append_assoc

pub compared_puts : (before : PlainDefinitions) (put : List ℕ) (whole : Network) (g : PlainDefinitions) (out xs ys : List ℕ) (i : ℕ) → i < length xs → i < length ys → Rests before put whole g out (compared g.next (drop i xs) (drop i ys))
    → let x = get_or xs i 0 in
    let y = get_or ys i 0 in
    (a b c after : PlainDefinitions) → a ≡ with_terms (with_terms g ((is_in x ∷ []) ∷ [])) ((is_in y ∷ []) ∷ []) → b ≡ ended a → c ≡ with_terms b ((is_in x ∷ is_in y ∷ []) ∷ []) → after ≡ ended c
    → (more : List ℕ) → more ≡ (out ++ a.next ∷ []) ++ c.next ∷ [] → Rests before put whole after more (compared after.next (drop (i + 1) xs) (drop (i + 1) ys))
compared_puts before put whole g out xs ys i in_xs in_ys (inr many) a b c after one two three four more made =
    inr (many.0, omega (arith, many.1, ap next_of one, ap next_of two, ap next_of three, ap next_of four))
compared_puts before put whole g out xs ys i in_xs in_ys (inl rest) a b c after one two three four more made =
    let x = get_or xs i 0 in
    let y = get_or ys i 0 in
    let number = ap next_of (rest.definitions ∙ (λ j. with_definitions g (compared g.next (at_index xs i in_xs j) (at_index ys i in_ys j)).definitions) ∙ two_then g x y (drop (i + 1) xs) (drop (i + 1) ys)) in
    ⊎_elim
    (λ first.
    let third = three ∙ ap (λ (g : PlainDefinitions). with_terms g ((is_in x ∷ is_in y ∷ []) ∷ [])) (first ∙ ap (λ (g : PlainDefinitions). record g { next = g.next + 1 }) one) in
    ⊎_elim
    (λ second.
    inl (compared_step before put whole g out xs ys i in_xs in_ys rest after (second ∙ ap (λ (g : PlainDefinitions). record g { next = g.next + 1 }) third) more (made ∙ (λ j. (out ++ ap next_of one j ∷ []) ++ ap next_of third j ∷ []))))
    (λ many. inr (omega (arith, many.0, ap next_of third, number), many.1)) (ended_is c after four))
    (λ many. inr (omega (arith, many.0, ap next_of one, number), omega (arith, many.1, ap next_of three, ap next_of four))) (ended_is a b two)

compared_none : (n : ℕ) (xs ys : List ℕ) → (xs ≡ []) ⊎ (ys ≡ []) → ((compared n xs ys).definitions ≡ []) × ((compared n xs ys).outputs ≡ xs ++ ys)
unfolding compared
compared_none n [] ys h = (refl, refl)
compared_none n (x ∷ xs) [] h = (refl, sym (append-nil (x ∷ xs)))
compared_none n (x ∷ xs) (y ∷ ys) (inl h) = cc
compared_none n (x ∷ xs) (y ∷ ys) (inr h) = cc

pub with_none : (g : PlainDefinitions) → with_definitions g [] ≡ g
with_none g = λ i. record { next = number i; clauses = append-nil g.clauses i }
  where
    number : g.next + 0 ≡ g.next
    number = omega arith

pub compared_end : (before : PlainDefinitions) (put : List ℕ) (whole : Network) (g : PlainDefinitions) (out now xs ys : List ℕ) (i : ℕ) → i ≡ min (length xs) (length ys)
    → Rests before put whole g out (compared g.next (drop i xs) (drop i ys)) → now ≡ (out ++ drop i xs) ++ drop i ys → Puts whole before put g now
compared_end before put whole g out now xs ys i end (inr many) is = inr many
compared_end before put whole g out now xs ys i end (inl h) is =
    let none = compared_none g.next (drop i xs) (drop i ys) (⊎_elim (λ le. inl (drop_all i xs le)) (λ le. inr (drop_all i ys le)) (shorter (length xs) (length ys) i end)) in
    inl (record {
      definitions = sym (h.definitions ∙ ap (with_definitions g) none.0 ∙ with_none g);
      outputs = is ∙ append_assoc out (drop i xs) (drop i ys) ∙ ap (λ ps. out ++ ps) (sym none.1) ∙ sym h.outputs;
    })
  where
    shorter : (m n i : ℕ) → i ≡ min m n → (m ≤ i) ⊎ (n ≤ i)
    shorter m n i e = by (nat_le m n) refl
      where
        by : (b : Bool) → nat_le m n ≡ b → (m ≤ i) ⊎ (n ≤ i)
        by true h = let le : m ≤ n = grind (arith, nat_tests) in inl (omega arith)
        by false h = let le : n < m = grind (arith, nat_tests) in inr (omega arith)

pub evens_none : (xs : List ℕ) (i : ℕ) → length xs ≤ i → evens (drop i xs) ≡ []
unfolding evens
evens_none xs i le = ap evens (drop_all i xs le)

-- ---- merged

pub merged_left : (most depth next : ℕ) (xs ys : List ℕ) → length xs ≡ 0 → merged most depth next xs ys ≡ record { definitions = []; outputs = ys }
unfolding merged
merged_left most depth next [] ys none = refl
merged_left most depth next (x ∷ xs) ys none = absurd (omega arith)

pub merged_right : (most depth next : ℕ) (xs ys : List ℕ) → 0 < length xs → length ys ≡ 0 → merged most depth next xs ys ≡ record { definitions = []; outputs = xs }
unfolding merged
merged_right most depth next [] ys some none = absurd (omega arith)
merged_right most depth next (x ∷ xs) [] some none = refl
merged_right most depth next (x ∷ xs) (y ∷ ys) some none = absurd (omega arith)

short_same : (m n : ℕ) (b : Bool) → (nat_le (suc m) 32 && nat_le (suc n) 32) ≡ b → (nat_le m 31 && nat_le n 31) ≡ b
short_same m n b e = grind (arith, nat_tests)

pub merged_direct : (most depth next : ℕ) (xs ys : List ℕ) → 0 < length xs → 0 < length ys → is_direct depth xs ys ≡ true → merged most depth next xs ys ≡ added most next xs ys
unfolding merged
merged_direct most depth next [] ys some others h = absurd (omega arith)
merged_direct most depth next (x ∷ xs) [] some others h = absurd (omega arith)
merged_direct most zero next (x ∷ xs) (y ∷ ys) some others h = refl
merged_direct most (suc depth) next (x ∷ xs) (y ∷ ys) some others h =
    let even = merged most depth next (evens (x ∷ xs)) (evens (y ∷ ys)) in
    let odd = merged most depth (next + length even.definitions) (evens xs) (evens ys) in
    ap (λ b. cond b (added most next (x ∷ xs) (y ∷ ys)) (joined next even odd)) (short_same (length xs) (length ys) true (later (suc depth == 0) refl h))
  where
    later : (a : Bool) → (suc depth == 0) ≡ a → (a || (nat_le (suc (length xs)) 32 && nat_le (suc (length ys)) 32)) ≡ true → (nat_le (suc (length xs)) 32 && nat_le (suc (length ys)) 32) ≡ true
    later true e h = let no : suc depth ≡ 0 = eqb-true (suc depth) 0 e in absurd (omega arith)
    later false e h = h

pub merged_joined : (most depth next : ℕ) (xs ys : List ℕ) → 0 < length xs → 0 < length ys → is_direct depth xs ys ≡ false
    → let even = merged most (depth - 1) next (evens xs) (evens ys) in
    merged most depth next xs ys ≡ joined next even (merged most (depth - 1) (next + length even.definitions) (evens (drop 1 xs)) (evens (drop 1 ys)))
unfolding merged
merged_joined most depth next [] ys some others h = absurd (omega arith)
merged_joined most depth next (x ∷ xs) [] some others h = absurd (omega arith)
merged_joined most zero next (x ∷ xs) (y ∷ ys) some others h = cc
merged_joined most (suc depth) next (x ∷ xs) (y ∷ ys) some others h =
    let even = merged most depth next (evens (x ∷ xs)) (evens (y ∷ ys)) in
    let odd = merged most depth (next + length even.definitions) (evens xs) (evens ys) in
    ap (λ b. cond b (added most next (x ∷ xs) (y ∷ ys)) (joined next even odd)) (short_same (length xs) (length ys) false (later (suc depth == 0) h))
    ∙ ap (λ (d : ℕ). joined next (merged most d next (evens (x ∷ xs)) (evens (y ∷ ys))) (merged most d (next + length (merged most d next (evens (x ∷ xs)) (evens (y ∷ ys))).definitions) (evens xs) (evens ys))) {x = depth} {y = suc depth - 1} (omega arith)
  where
    later : (a : Bool) → (a || (nat_le (suc (length xs)) 32 && nat_le (suc (length ys)) 32)) ≡ false → (nat_le (suc (length xs)) 32 && nat_le (suc (length ys)) 32) ≡ false
    later true h = cc
    later false h = h

clauses_append : (next : ℕ) (xs ys : List Dnf) → clauses_from next (xs ++ ys) ≡ clauses_from next xs ++ clauses_from (next + length xs) ys
clauses_append next [] ys = ap (λ (n : ℕ). clauses_from n ys) {x = next} {y = next + 0} (omega arith)
clauses_append next (x ∷ xs) ys =
    ap (λ cs. defining_clauses next x ++ cs) (clauses_append (next + 1) xs ys ∙ ap (λ (n : ℕ). clauses_from (next + 1) xs ++ clauses_from n ys) {x = next + 1 + length xs} {y = next + suc (length xs)} (omega arith))
    ∙ sym (append_assoc (defining_clauses next x) (clauses_from (next + 1) xs) (clauses_from (next + suc (length xs)) ys))

pub with_append : (g : PlainDefinitions) (xs ys : List Dnf) → with_definitions (with_definitions g xs) ys ≡ with_definitions g (xs ++ ys)
with_append g xs ys = λ i. record {
  next = number i;
  clauses = (append_assoc g.clauses (clauses_from g.next xs) (clauses_from (g.next + length xs) ys) ∙ ap (λ cs. g.clauses ++ cs) (sym (clauses_append g.next xs ys))) i;
}
  where
    number : g.next + length xs + length ys ≡ g.next + length (xs ++ ys)
    number = omega (arith, length-append xs ys)

-- without definitions
pub put_nothing : (net : Network) (g : PlainDefinitions) (now ps : List ℕ) → net ≡ record { definitions = []; outputs = ps } → now ≡ ps → Puts net g [] g now
put_nothing net g now ps none is = inl (record {
  definitions = sym (with_none g) ∙ ap (λ (s : Network). with_definitions g s.definitions) (sym none);
  outputs = is ∙ ap (λ (s : Network). s.outputs) (sym none);
})

pub compared_same : (g after : PlainDefinitions) (xs others ys more put before now : List ℕ) → xs ≡ others → ys ≡ more → put ≡ before → Puts (compared g.next xs ys) g put after now → Puts (compared g.next others more) g before after now
compared_same g after xs others ys more put before now a b p h =
    subst (λ (ls : List ℕ). Puts (compared g.next others more) g ls after now) p (subst (λ (s : Network). Puts s g put after now) (λ i. compared g.next (a i) (b i)) h)

-- three networks in turn: a second one behind the first, and a third one of the outputs of both
abbrev pub in_turn : ℕ → Network → (ℕ → Network) → (ℕ → List ℕ → List ℕ → Network) → (List ℕ → List ℕ) → Network
in_turn next first then last lead =
    let second = then (next + length first.definitions) in
    let third = last (next + length first.definitions + length second.definitions) first.outputs second.outputs in
    record { definitions = first.definitions ++ second.definitions ++ third.definitions; outputs = lead first.outputs ++ third.outputs }

pub put_in_turn : (g0 g1 g2 g3 : PlainDefinitions) (front back now : List ℕ) (first : Network) (then : ℕ → Network) (last : ℕ → List ℕ → List ℕ → Network) (lead : List ℕ → List ℕ) → Puts first g0 [] g1 front → Puts (then g1.next) g1 [] g2 back
    → Puts (last g2.next front back) g2 (lead front) g3 now → Puts (in_turn g0.next first then last lead) g0 [] g3 now
put_in_turn g0 g1 g2 g3 front back now first then last lead one two three = by one two
  where
    second : Network
    second = then (g0.next + length first.definitions)

    third : Network
    third = last (g0.next + length first.definitions + length second.definitions) first.outputs second.outputs

    size : length (first.definitions ++ second.definitions ++ third.definitions) ≡ length first.definitions + length second.definitions + length third.definitions
    size = omega (arith, length-append (first.definitions ++ second.definitions) third.definitions, length-append first.definitions second.definitions)

    all : IsPut first g0 [] g1 front → IsPut second g1 [] g2 back → Puts (last g2.next front back) g2 (lead front) g3 now → Puts (in_turn g0.next first then last lead) g0 [] g3 now
    all one two three =
        let both : g2 ≡ with_definitions (with_definitions g0 first.definitions) second.definitions = two.definitions ∙ ap (λ (g : PlainDefinitions). with_definitions g second.definitions) one.definitions in
        let same : last g2.next front back ≡ third = λ i. last (both i).next (one.outputs i) (two.outputs i) in
        ⊎_elim
        (λ put. inl (record {
          definitions = put.definitions ∙ (λ i. with_definitions (both i) third.definitions)
              ∙ ap (λ (g : PlainDefinitions). with_definitions g third.definitions) (with_append g0 first.definitions second.definitions) ∙ with_append g0 (first.definitions ++ second.definitions) third.definitions;
          outputs = put.outputs ∙ ap (λ (ps : List ℕ). lead ps ++ third.outputs) one.outputs;
        }))
        (λ many. inr (omega (arith, many.0, ap next_of both, size), many.1))
        (subst (λ (s : Network). Puts s g2 (lead front) g3 now) same three)

    later : IsPut first g0 [] g1 front → Puts second g1 [] g2 back → Puts (in_turn g0.next first then last lead) g0 [] g3 now
    later one (inl two) = all one two three
    later one (inr many) = inr (omega (arith, many.0, ap next_of one.definitions, size), over_more g2 g3 (last g2.next front back) (lead front) now three many.1)

    by : Puts first g0 [] g1 front → Puts (then g1.next) g1 [] g2 back → Puts (in_turn g0.next first then last lead) g0 [] g3 now
    by (inl one) two = later one (subst (λ (n : ℕ). Puts (then n) g1 [] g2 back) (ap next_of one.definitions) two)
    by (inr many) two = inr (omega (arith, many.0, size), over_more g2 g3 (last g2.next front back) (lead front) now three (over_more g1 g2 (then g1.next) [] back two many.1))

-- only so many outputs
pub put_cut : (most : ℕ) (net : Network) (g after : PlainDefinitions) (now : List ℕ) → Puts net g [] after now → Puts (record { definitions = net.definitions; outputs = take most net.outputs }) g [] after (take most now)
put_cut most net g after now (inl put) = inl (record { definitions = put.definitions; outputs = ap (take most) put.outputs })
put_cut most net g after now (inr many) = inr many

-- a slice to the end
pub rest_of : (xs : List ℕ) (n : ℕ) → take (length xs - n) (drop n xs) ≡ drop n xs
rest_of xs n = take_all (length xs - n) (drop n xs) (omega (arith, length-drop n xs))

pub drop_first : (xs : List ℕ) (n : ℕ) → n ≡ min (length xs) 1 → drop n xs ≡ drop 1 xs
drop_first [] n e = drop_all n [] (omega arith)
drop_first (x ∷ xs) n e = ap (λ (k : ℕ). drop k (x ∷ xs)) {x = n} {y = 1} (omega arith)

pub take_first : (xs : List ℕ) (n : ℕ) → n ≡ min (length xs) 1 → take n xs ≡ take 1 xs
take_first [] n e = take_all n [] (omega arith)
take_first (x ∷ xs) n e = ap (λ (k : ℕ). take k (x ∷ xs)) {x = n} {y = 1} (omega arith)

-- ---- sorted

pub sorted_nothing : (most depth next : ℕ) (definitions : List Dnf) → length definitions ≡ 0 → sorted most depth next definitions ≡ record { definitions = []; outputs = [] }
unfolding sorted
sorted_nothing most zero next [] none = refl
sorted_nothing most zero next (g ∷ definitions) none = absurd (omega arith)
sorted_nothing most (suc depth) next definitions none =
    let front = take_all (2 ^ depth) definitions (omega arith) in
    let back = drop_all (2 ^ depth) definitions (omega arith) in
    let left = sorted_nothing most depth next (take (2 ^ depth) definitions) (omega (arith, ap length front)) in
    let right = λ (n : ℕ). sorted_nothing most depth n (drop (2 ^ depth) definitions) (omega (arith, ap length back)) in
    let start = next + length (sorted most depth next (take (2 ^ depth) definitions)).definitions in
    let both = merged_left most depth (start + length (sorted most depth start (drop (2 ^ depth) definitions)).definitions) (sorted most depth next (take (2 ^ depth) definitions)).outputs (sorted most depth start (drop (2 ^ depth) definitions)).outputs (ap (λ (s : Network). length s.outputs) left) in
    (λ i. record {
      definitions = (left i).definitions ++ (right start i).definitions ++ (both i).definitions;
      outputs = take most ((both ∙ (λ j. record { definitions = []; outputs = (right start j).outputs })) i).outputs;
    }) ∙ ap (λ ps. record { definitions = []; outputs = ps }) (take_all most [] (omega arith))

-- two sorted halves, merged
abbrev pub paired : ℕ → ℕ → ℕ → Network → Network → Network
paired most depth next left right =
    let both = merged most depth (next + length left.definitions + length right.definitions) left.outputs right.outputs in
    record { definitions = left.definitions ++ right.definitions ++ both.definitions; outputs = take most both.outputs }

abbrev pub halves : ℕ → ℕ → ℕ → List Dnf → List Dnf → Network
halves most depth next front back = let left = sorted most depth next front in paired most depth next left (sorted most depth (next + length left.definitions) back)

pub power_twice : (depth : ℕ) → 0 < depth → 2 ^ depth ≡ 2 ^ (depth - 1) + 2 ^ (depth - 1)
power_twice zero some = absurd (omega arith)
power_twice (suc d) some =
    let twice = pow_more 2 d in
    let same : 2 ^ (suc d - 1) ≡ 2 ^ d = ap (λ (n : ℕ). 2 ^ n) {x = suc d - 1} {y = d} (omega arith) in
    let next : 2 ^ (suc d) ≡ 2 ^ (d + 1) = ap (λ (n : ℕ). 2 ^ n) {x = suc d} {y = d + 1} (omega arith) in
    omega arith

sorted_halves : (most depth next : ℕ) (formulas : List Dnf) → 0 < depth → sorted most depth next formulas ≡ halves most (depth - 1) next (take (2 ^ (depth - 1)) formulas) (drop (2 ^ (depth - 1)) formulas)
unfolding sorted
sorted_halves most zero next formulas some = absurd (omega arith)
sorted_halves most (suc d) next formulas some = ap (λ (n : ℕ). halves most n next (take (2 ^ n) formulas) (drop (2 ^ n) formulas)) {x = d} {y = suc d - 1} (omega arith)

-- the first formulas of some
pub sorted_part : (most depth next : ℕ) (formulas : List Dnf) → 0 < depth
    → let p = 2 ^ (depth - 1) in sorted most depth next (take (2 ^ depth) formulas) ≡ halves most (depth - 1) next (take p formulas) (take p (drop p formulas))
sorted_part most depth next formulas some =
    let p = 2 ^ (depth - 1) in
    let twice = power_twice depth some in
    let front : take p (take (2 ^ depth) formulas) ≡ take p formulas = take-take p (2 ^ depth) formulas (omega arith) in
    let back : drop p (take (2 ^ depth) formulas) ≡ take p (drop p formulas) = ap (λ (n : ℕ). drop p (take n formulas)) twice ∙ drop-take p p formulas in
    sorted_halves most depth next (take (2 ^ depth) formulas) some ∙ (λ i. halves most (depth - 1) next (front i) (back i))

pub sorted_whole : (most depth next : ℕ) (formulas : List Dnf) → sorted most depth next (take (2 ^ depth) formulas) ≡ sorted most depth next formulas
unfolding sorted
sorted_whole most zero next [] = refl
sorted_whole most zero next (formula ∷ formulas) = refl
sorted_whole most (suc d) next formulas =
    let p = 2 ^ d in
    let twice : 2 ^ (suc d) ≡ p + p = power_twice (suc d) (omega arith) ∙ (λ i. 2 ^ (less i) + 2 ^ (less i)) in
    let left = sorted most d next (take p formulas) in
    let front : take p (take (2 ^ (suc d)) formulas) ≡ take p formulas = take-take p (2 ^ (suc d)) formulas (omega arith) in
    let back : drop p (take (2 ^ (suc d)) formulas) ≡ take p (drop p formulas) = ap (λ (n : ℕ). drop p (take n formulas)) twice ∙ drop-take p p formulas in
    (λ i. halves most d next (front i) (back i)) ∙ ap (paired most d next left) (sorted_whole most d (next + length left.definitions) (drop p formulas))
  where
    less : suc d - 1 ≡ d
    less = omega arith

-- one formula
pub sorted_one : (most depth next i : ℕ) (formulas : List Dnf) → depth ≡ 0 → i < length formulas → sorted most depth next (take (2 ^ depth) (drop i formulas)) ≡ single next (get_or formulas i [])
unfolding sorted
sorted_one most depth next i formulas none lt = (λ j. sorted most (none j) next (take (2 ^ (none j)) (drop-cons formulas i [] lt j)))

pub one_put : (g after : PlainDefinitions) (definition : Dnf) → after ≡ record (with_terms g definition) { next = g.next + 1 } → after ≡ with_definitions g (definition ∷ [])
one_put g after definition e = definitions_more g [] definition after (e ∙ (λ i. record (with_terms (sym (with_none g) i) definition) { next = number i }))
  where
    number : g.next + 1 ≡ g.next + length {A = Dnf} [] + 1
    number = omega arith

pub single_put : (g closed after : PlainDefinitions) (formula : Dnf) (variable : ℕ) (outputs : List ℕ) → closed ≡ with_terms g formula → after ≡ ended closed → variable ≡ closed.next → outputs ≡ variable ∷ [] → Puts (single g.next formula) g [] after outputs
single_put g closed after formula variable outputs close end is made =
    ⊎_elim
    (λ exact. inl (record {
      definitions = one_put g after formula (exact ∙ ap (λ (g : PlainDefinitions). record g { next = g.next + 1 }) close);
      outputs = made ∙ ap (λ (n : ℕ). n ∷ []) (is ∙ ap next_of close);
    }))
    (λ many. inr (omega (arith, many.0, ap next_of close), many.1)) (ended_is closed after end)

-- ---- constraints

less_step : (g : PlainDefinitions) (strict : List Literal) (b : AtMost) (bs : List AtMost) (own : List Literal) → strict_of b.bound (counter g.next b).outputs ≡ Some own
    → g.clauses ++ lexicographic_clauses g.next strict (b ∷ bs) ≡ (with_constraint g strict b).clauses ++ lexicographic_clauses (with_constraint g strict b).next (strict ++ own) bs
unfolding lexicographic_clauses
less_step g strict b bs own e =
    let count = counter g.next b in
    let kept = map (λ (variable : ℕ). strict ++ is_out variable ∷ []) (drop b.bound count.outputs) in
    let rest = lexicographic_clauses (g.next + length count.definitions) (strict ++ own) bs in
    ap (λ (o : Option (List Literal)). g.clauses ++ (clauses_from g.next count.definitions ++ kept ++ option_map_or (λ own. lexicographic_clauses (g.next + length count.definitions) (strict ++ own) bs) o [])) e
    ∙ regroup g.clauses (clauses_from g.next count.definitions) kept rest
  where
    regroup : (a b c d : List (List Literal)) → a ++ ((b ++ c) ++ d) ≡ ((a ++ b) ++ c) ++ d
    regroup a b c d = simp append_assoc

less_stop : (g : PlainDefinitions) (strict : List Literal) (b : AtMost) (bs : List AtMost) → strict_of b.bound (counter g.next b).outputs ≡ None
    → g.clauses ++ lexicographic_clauses g.next strict (b ∷ bs) ≡ (with_constraint g strict b).clauses
unfolding lexicographic_clauses
less_stop g strict b bs e =
    let count = counter g.next b in
    let kept = map (λ (variable : ℕ). strict ++ is_out variable ∷ []) (drop b.bound count.outputs) in
    ap (λ (o : Option (List Literal)). g.clauses ++ (clauses_from g.next count.definitions ++ kept ++ option_map_or (λ own. lexicographic_clauses (g.next + length count.definitions) (strict ++ own) bs) o [])) e
    ∙ regroup g.clauses (clauses_from g.next count.definitions) kept
  where
    regroup : (a b c : List (List Literal)) → a ++ ((b ++ c) ++ []) ≡ (a ++ b) ++ c
    regroup a b c = ap (λ (cs : List (List Literal)). a ++ cs) (append-nil (b ++ c)) ∙ sym (append_assoc a b c)

less_end : (next : ℕ) (strict : List Literal) → lexicographic_clauses next strict [] ≡ strict ∷ []
unfolding lexicographic_clauses
less_end next strict = refl

next_step : (g : PlainDefinitions) (strict own : List Literal) (b : AtMost) (bs : List AtMost) → strict_of b.bound (counter g.next b).outputs ≡ Some own
    → next_variable g.next (b ∷ bs) ≡ next_variable (with_constraint g strict b).next bs
unfolding next_variable
next_step g strict own b bs e =
    let after = g.next + length (counter g.next b).definitions in
    ap (λ (o : Option (List Literal)). option_map_or (λ own. next_variable after bs) o after) e

next_stop : (g : PlainDefinitions) (strict : List Literal) (b : AtMost) (bs : List AtMost) → strict_of b.bound (counter g.next b).outputs ≡ None
    → next_variable g.next (b ∷ bs) ≡ (with_constraint g strict b).next
unfolding next_variable
next_stop g strict b bs e =
    let after = g.next + length (counter g.next b).definitions in
    ap (λ (o : Option (List Literal)). option_map_or (λ own. next_variable after bs) o after) e

next_end : (next : ℕ) → next_variable next [] ≡ next
unfolding next_variable
next_end next = refl

-- whether or not there is one more constraint
more_or_end : (after more : ℕ) (o : Option (List Literal)) → after ≤ more → after ≤ option_map_or (λ own. more) o after
more_or_end after more None le = omega arith
more_or_end after more (Some own) le = le

pub next_least : (next : ℕ) (cs : List AtMost) → next ≤ next_variable next cs
unfolding next_variable
next_least next [] = omega arith
next_least next (c ∷ cs) =
    let after = next + length (counter next c).definitions in
    let more = more_or_end after (next_variable after cs) (strict_of c.bound (counter next c).outputs) (next_least after cs) in
    omega arith

next_after : (next : ℕ) (c : AtMost) (cs : List AtMost) → next + length (counter next c).definitions ≤ next_variable next (c ∷ cs)
unfolding next_variable
next_after next c cs = let after = next + length (counter next c).definitions in more_or_end after (next_variable after cs) (strict_of c.bound (counter next c).outputs) (next_least after cs)

pub bound_put : (more : Bool) (b : AtMost) (g mid after : PlainDefinitions) (before now : List Literal) (outputs : List ℕ) → Puts (counter g.next b) g [] mid outputs
    → after ≡ with_clauses mid (map (λ variable. before ++ is_out variable ∷ []) (drop b.bound outputs)) → IsStrict more (strict_of b.bound outputs) before now → IsBounded more b g before after now
bound_put more b g mid after before now outputs (inl put) is own = inl (
  is ∙ (λ i. with_clauses (put.definitions i) (map (λ variable. before ++ is_out variable ∷ []) (drop b.bound (put.outputs i)))),
  subst (λ (ps : List ℕ). IsStrict more (strict_of b.bound ps) before now) put.outputs own,
)
bound_put more b g mid after before now outputs (inr many) is own = inr (many.0, omega (arith, many.1, ap next_of is))

-- these clauses are all of the whole; or there are too many variables
abbrev pub Remains : PlainDefinitions → PlainDefinitions → List Literal → List AtMost → Type 0
Remains whole g strict bs = (whole ≡ with_constraints g strict bs) ⊎ (IsOver whole × IsOver g)

over_bound : (more : Bool) (b : AtMost) (g after : PlainDefinitions) (before now : List Literal) → IsBounded more b g before after now → IsOver g → IsOver after
over_bound more b g after before now (inl (put, own)) over = omega (arith, over, ap next_of put)
over_bound more b g after before now (inr many) over = many.1

-- as many as there are up to this constraint
over_whole : (whole g : PlainDefinitions) (strict : List Literal) (b : AtMost) (bs : List AtMost) → whole ≡ with_constraints g strict (b ∷ bs) → IsOver (with_constraint g strict b) → IsOver whole
over_whole whole g strict b bs e over = omega (arith, over, ap next_of e, next_after g.next b bs)

pub bound_more : (whole g after : PlainDefinitions) (strict now : List Literal) (b : AtMost) (bs : List AtMost) → Remains whole g strict (b ∷ bs) → IsBounded true b g strict after now → Remains whole after now bs
bound_more whole g after strict now b bs (inr many) put = inr (many.0, over_bound true b g after strict now put many.1)
bound_more whole g after strict now b bs (inl e) (inr many) = inr (over_whole whole g strict b bs e many.0, many.1)
bound_more whole g after strict now b bs (inl e) (inl (put, own)) =
    inl (e ∙ (λ i. record { next = next_step g strict own.literals b bs own.are i; clauses = less_step g strict b bs own.literals own.are i }) ∙ (λ i. with_constraints (sym put i) (sym own.added i) bs))

pub bound_last : (whole g after : PlainDefinitions) (strict now : List Literal) (b : AtMost) (bs : List AtMost) → Remains whole g strict (b ∷ bs) → IsBounded false b g strict after now → Reaches whole after
bound_last whole g after strict now b bs (inr many) put = inr (many.0, over_bound false b g after strict now put many.1)
bound_last whole g after strict now b bs (inl e) (inr many) = inr (over_whole whole g strict b bs e many.0, many.1)
bound_last whole g after strict now b bs (inl e) (inl (put, own)) = inl (sym (e ∙ (λ i. record { next = next_stop g strict b bs own i; clauses = less_stop g strict b bs own i }) ∙ sym put))

pub bound_end : (whole g after : PlainDefinitions) (strict : List Literal) → Remains whole g strict [] → after ≡ with_clauses g (strict ∷ []) → Reaches whole after
bound_end whole g after strict (inr many) put = inr (many.0, omega (arith, many.1, ap next_of put))
bound_end whole g after strict (inl e) put = inl (sym (e ∙ (λ i. record { next = next_end g.next i; clauses = g.clauses ++ less_end g.next strict i }) ∙ sym put))
