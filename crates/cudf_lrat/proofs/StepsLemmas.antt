-- Steps by their positions, and one more step.
use Rattle.std.proofs.Common.{◌≡◌, ◌≢◌, ℕ, zero, suc, ◌+◌, ◌-◌, ◌^◌, ◌<◌, ◌≤◌, eqb, ltb, List, [], ◌∷◌, ◌++◌, length, get_or, map, Some, None, refl, sym, ap, ◌∙◌, subst, inl, inr, arith}
use Rattle.std.specs.Prelude.{All, slice_index}
use Rattle.std.proofs.lemmas.Bool.{cases_eq, cases_lt, cond-true, cond-false, eq-eqb, ne_eqb, lt-ltb, le-ltb}
use Rattle.std.proofs.lemmas.List.{get_or_append_left, get_or_push, length_push}
use Rattle.std.proofs.lemmas.List.Elements.{All-head, All-nil, All-tail, All-push, All-weaker}
use Rattle.cudf_lrat.specs.Literals.{PlainCnf}
use Rattle.cudf_lrat.specs.Steps.{greatest_number, step_numbered}
use Rattle.cudf_lrat.specs.Working.Indices.{IsAscending, IsDerivation, number_at, steps_below}
use Rattle.cudf_lrat.specs.declared.cnf.Literal.{Literal}

-- ---- a number among the steps

pub unnumbered : (given : ℕ) (numbers : List ℕ) (clauses : List (List Literal)) (used : List (List ℕ)) (h k : ℕ) → ((j : ℕ) → j < k → slice_index numbers j ≢ h) → step_numbered (steps_below given numbers clauses used k) h ≡ None
unnumbered given numbers clauses used h zero none = refl
unnumbered given numbers clauses used h (suc k) none =
    cond-false (eqb (slice_index numbers k) h) _ _ (ne_eqb (slice_index numbers k) h (none k (omega arith)))
    ∙ unnumbered given numbers clauses used h k (λ j lt. none j (omega arith))

pub numbered-at : (given : ℕ) (numbers : List ℕ) (clauses : List (List Literal)) (used : List (List ℕ)) (h j k : ℕ) → IsAscending given numbers → j < k → k ≤ length numbers → slice_index numbers j ≡ h
    → step_numbered (steps_below given numbers clauses used k) h ≡ Some (get_or clauses j [])
numbered-at given numbers clauses used h j zero up below within is = absurd (omega arith)
numbered-at given numbers clauses used h j (suc k) up below within is =
    elim (cases_eq j k) [
      | inl same ↦
          let here : slice_index numbers k ≡ h = ap (slice_index numbers) (sym same) ∙ is in
          cond-true (eqb (slice_index numbers k) h) _ _ (eq-eqb (slice_index numbers k) h here) ∙ ap (λ i. Some (get_or clauses i [])) (sym same)
      | inr other ↦
          let lower : j < k = omega arith in
          let inside : k < length numbers = omega arith in
          let rises : slice_index numbers j < slice_index numbers k = up.rising j k lower inside in
          cond-false (eqb (slice_index numbers k) h) _ _ (ne_eqb (slice_index numbers k) h (λ e. omega arith))
          ∙ numbered-at given numbers clauses used h j k up lower (omega arith) is
    ]

-- ---- one more step

map-agree : (f g : ℕ → ℕ) (xs : List ℕ) → All (λ x. f x ≡ g x) xs → map f xs ≡ map g xs
map-agree f g [] same = refl
map-agree f g (x ∷ xs) same =
    let here : f x ≡ g x = All-head (λ x. f x ≡ g x) x xs same in
    let rest : map f xs ≡ map g xs = map-agree f g xs (All-tail (λ x. f x ≡ g x) x xs same) in
    cc

number_at-push : (given : ℕ) (numbers : List ℕ) (n index : ℕ) → index < given + length numbers → number_at given (numbers ++ n ∷ []) index ≡ number_at given numbers index
number_at-push given numbers n index inside =
    elim (cases_lt index given) [
      | inl lower ↦ cond-true (ltb index given) _ _ (lt-ltb index given lower) ∙ sym (cond-true (ltb index given) _ _ (lt-ltb index given lower))
      | inr upper ↦
          let within : index - given < length numbers = omega arith in
          cond-false (ltb index given) _ _ (le-ltb index given upper)
          ∙ get_or_append_left numbers (n ∷ []) 0 (index - given) within
          ∙ sym (cond-false (ltb index given) _ _ (le-ltb index given upper))
    ]

numbers_at-push : (given : ℕ) (numbers : List ℕ) (n bound : ℕ) (indices : List ℕ) → bound ≤ given + length numbers → All (λ index. index < bound) indices → map (number_at given (numbers ++ n ∷ [])) indices ≡ map (number_at given numbers) indices
numbers_at-push given numbers n bound indices fits inside =
    map-agree (number_at given (numbers ++ n ∷ [])) (number_at given numbers) indices
    (All-weaker (λ index. index < bound) (λ index. number_at given (numbers ++ n ∷ []) index ≡ number_at given numbers index) (λ index h. number_at-push given numbers n index (omega arith)) indices inside)

-- the steps so far stay as they were
steps_below-push : (given : ℕ) (numbers : List ℕ) (clauses : List (List Literal)) (used : List (List ℕ)) (n : ℕ) (c : List Literal) (u : List ℕ) (k : ℕ)
    → length clauses ≡ length numbers → length used ≡ length numbers → ((j : ℕ) → j < length numbers → All (λ index. index < given + j) (get_or used j [])) → k ≤ length numbers
    → steps_below given (numbers ++ n ∷ []) (clauses ++ c ∷ []) (used ++ u ∷ []) k ≡ steps_below given numbers clauses used k
steps_below-push given numbers clauses used n c u zero cs us earlier fits = refl
steps_below-push given numbers clauses used n c u (suc k) cs us earlier fits =
    let inside : k < length numbers = omega arith in
    let number : get_or (numbers ++ n ∷ []) k 0 ≡ get_or numbers k 0 = get_or_append_left numbers (n ∷ []) 0 k inside in
    let clause : get_or (clauses ++ c ∷ []) k [] ≡ get_or clauses k [] = get_or_append_left clauses (c ∷ []) [] k (omega arith) in
    let list : get_or (used ++ u ∷ []) k [] ≡ get_or used k [] = get_or_append_left used (u ∷ []) [] k (omega arith) in
    let names : map (number_at given (numbers ++ n ∷ [])) (get_or (used ++ u ∷ []) k []) ≡ map (number_at given numbers) (get_or used k []) =
    ap (map (number_at given (numbers ++ n ∷ []))) list ∙ numbers_at-push given numbers n (given + k) (get_or used k []) (omega arith) (earlier k inside) in
    let rest : steps_below given (numbers ++ n ∷ []) (clauses ++ c ∷ []) (used ++ u ∷ []) k ≡ steps_below given numbers clauses used k = steps_below-push given numbers clauses used n c u k cs us earlier (omega arith) in
    λ i. record { number = number i; clause = clause i; used = names i } ∷ rest i

pub steps-push : (cnf : PlainCnf) (numbers all : List ℕ) (clauses every : List (List Literal)) (used each : List (List ℕ)) (n : ℕ) (c : List Literal) (u : List ℕ)
    → all ≡ numbers ++ n ∷ [] → every ≡ clauses ++ c ∷ [] → each ≡ used ++ u ∷ [] → IsDerivation cnf numbers clauses used → All (λ index. index < length cnf.clauses + length numbers) u
    → steps_below (length cnf.clauses) all every each (length all)
    ≡ record { number = n; clause = c; used = map (number_at (length cnf.clauses) numbers) u } ∷ steps_below (length cnf.clauses) numbers clauses used (length numbers)
steps-push cnf numbers all clauses every used each n c u ns cs us is inside =
    let given : ℕ = length cnf.clauses in
    let count : length all ≡ suc (length numbers) = let e : length all ≡ length (numbers ++ n ∷ []) = ap length ns in omega (arith, length_push numbers n) in
    let number : get_or (numbers ++ n ∷ []) (length numbers) 0 ≡ n = get_or_push numbers n 0 (length numbers) refl in
    let clause : get_or (clauses ++ c ∷ []) (length numbers) [] ≡ c = get_or_push clauses c [] (length numbers) is.count in
    let list : get_or (used ++ u ∷ []) (length numbers) [] ≡ u = get_or_push used u [] (length numbers) is.used_count in
    let names : map (number_at given (numbers ++ n ∷ [])) (get_or (used ++ u ∷ []) (length numbers) []) ≡ map (number_at given numbers) u =
    ap (map (number_at given (numbers ++ n ∷ []))) list ∙ numbers_at-push given numbers n (given + length numbers) u (omega arith) inside in
    let rest : steps_below given (numbers ++ n ∷ []) (clauses ++ c ∷ []) (used ++ u ∷ []) (length numbers) ≡ steps_below given numbers clauses used (length numbers) = steps_below-push given numbers clauses used n c u (length numbers) is.count is.used_count is.earlier (omega arith) in
    (λ i. steps_below given (ns i) (cs i) (us i) (count i))
    ∙ (λ i. record { number = number i; clause = clause i; used = names i } ∷ rest i)

ascending-push : (given : ℕ) (numbers : List ℕ) (n : ℕ) → IsAscending given numbers → given < n → ((k : ℕ) → k < length numbers → slice_index numbers k < n) → IsAscending given (numbers ++ n ∷ [])
ascending-push given numbers n up above over =
    record {
      above = λ k lt. elim (cases_lt k (length numbers)) [
        | inl before ↦ let same = get_or_append_left numbers (n ∷ []) 0 k before in let old = up.above k before in omega arith
        | inr after ↦ let last : length numbers ≡ k = omega (arith, length_push numbers n) in let new = get_or_push numbers n 0 k last in omega arith
      ];
      rising = λ j k below lt. elim (cases_lt k (length numbers)) [
        | inl before ↦
            let first = get_or_append_left numbers (n ∷ []) 0 j (omega arith) in
            let second = get_or_append_left numbers (n ∷ []) 0 k before in
            let old = up.rising j k below before in
            omega arith
        | inr after ↦
            let last : length numbers ≡ k = omega (arith, length_push numbers n) in
            let first = get_or_append_left numbers (n ∷ []) 0 j (omega arith) in
            let second = get_or_push numbers n 0 k last in
            let old = over j (omega arith) in
            omega arith
      ];
    }

-- the last number is the greatest
last-greatest : (cnf : PlainCnf) (numbers : List ℕ) (clauses : List (List Literal)) (used : List (List ℕ)) (m : ℕ) → IsAscending (length cnf.clauses) numbers → m ≤ length numbers
    → (length cnf.clauses ≤ greatest_number cnf.clauses (steps_below (length cnf.clauses) numbers clauses used m)) × ((k : ℕ) → k < m → slice_index numbers k ≤ greatest_number cnf.clauses (steps_below (length cnf.clauses) numbers clauses used m))
last-greatest cnf numbers clauses used zero up fits = (omega arith, λ k lt. absurd (omega arith))
last-greatest cnf numbers clauses used (suc m) up fits =
    let above = up.above m (omega arith) in (
      omega arith,
      λ k lt. elim (cases_eq k m) [
        | inl same ↦ let e : slice_index numbers k ≡ slice_index numbers m = ap (slice_index numbers) same in omega arith
        | inr other ↦ let rises = up.rising k m (omega arith) (omega arith) in omega arith
      ],
    )

pub derivation-push : (cnf : PlainCnf) (numbers all : List ℕ) (clauses every : List (List Literal)) (used each : List (List ℕ)) (n : ℕ) (c : List Literal) (u : List ℕ)
    → all ≡ numbers ++ n ∷ [] → every ≡ clauses ++ c ∷ [] → each ≡ used ++ u ∷ [] → IsDerivation cnf numbers clauses used → All (λ index. index < length cnf.clauses + length numbers) u
    → greatest_number cnf.clauses (steps_below (length cnf.clauses) numbers clauses used (length numbers)) < n → length cnf.clauses + length numbers + 1 < 2 ^ 32 → All (λ l. l.variable ≤ cnf.variables) c
    → IsDerivation cnf all every each
derivation-push cnf numbers all clauses every used each n c u ns cs us is inside new few variables =
    let greatest = last-greatest cnf numbers clauses used (length numbers) is.ascending (omega arith) in
    let up = ascending-push (length cnf.clauses) numbers n is.ascending (let g = greatest.0 in omega arith) (λ k lt. let g = greatest.1 k lt in omega arith) in
    let base : IsDerivation cnf (numbers ++ n ∷ []) (clauses ++ c ∷ []) (used ++ u ∷ []) = record {
      count = length_push clauses c ∙ ap (λ k. k + 1) is.count ∙ sym (length_push numbers n);
      used_count = length_push used u ∙ ap (λ k. k + 1) is.used_count ∙ sym (length_push numbers n);
      few = let e = length_push numbers n in omega arith;
      ascending = up;
      earlier = λ k lt. elim (cases_lt k (length numbers)) [
        | inl before ↦ subst (All (λ index. index < length cnf.clauses + k)) (sym (get_or_append_left used (u ∷ []) [] k (omega arith))) (is.earlier k before)
        | inr after ↦
            let last : length numbers ≡ k = omega (arith, length_push numbers n) in
            subst (All (λ index. index < length cnf.clauses + k)) (sym (get_or_push used u [] k (is.used_count ∙ last))) (subst (λ m. All (λ index. index < length cnf.clauses + m) u) last inside)
      ];
      within = All-push (λ clause. All (λ (l : Literal). l.variable ≤ cnf.variables) clause) clauses c is.within variables;
    } in
    subst (λ ns. IsDerivation cnf ns every each) (sym ns) (subst (λ cs. IsDerivation cnf (numbers ++ n ∷ []) cs each) (sym cs) (subst (λ us. IsDerivation cnf (numbers ++ n ∷ []) (clauses ++ c ∷ []) us) (sym us) base))

-- no steps yet
pub derivation-none : (cnf : PlainCnf) (numbers : List ℕ) (clauses : List (List Literal)) (used : List (List ℕ)) → length cnf.clauses < 2 ^ 32 → numbers ≡ [] → clauses ≡ [] → used ≡ [] → IsDerivation cnf numbers clauses used
derivation-none cnf numbers clauses used few ns cs us =
    let base : IsDerivation cnf [] [] [] = record {
      count = refl;
      used_count = refl;
      few = omega arith;
      ascending = record { above = λ k lt. absurd (omega arith); rising = λ j k below lt. absurd (omega arith) };
      earlier = λ k lt. absurd (omega arith);
      within = All-nil (λ clause. All (λ (l : Literal). l.variable ≤ cnf.variables) clause);
    } in
    subst (λ ns. IsDerivation cnf ns clauses used) (sym ns) (subst (λ cs. IsDerivation cnf [] cs used) (sym cs) (subst (λ us. IsDerivation cnf [] [] us) (sym us) base))
