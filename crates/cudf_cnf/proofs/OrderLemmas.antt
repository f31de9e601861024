-- The keys of a problem's CNF never descend, nor do those of some of its clauses.
use Rattle.std.proofs.Common.{◌≡◌, ℕ, suc, ◌+◌, ◌-◌, Bool, true, false, ◌&&◌, List, [], ◌∷◌, ◌++◌, length, map, filter, cond, refl, ap, ◌∙◌, arith}
use Rattle.std.specs.Prelude.{IsTrue, Option, Some, slice_get}
use Rattle.std.specs.List.{cons_option, filter_map, flat_map, list_all, range_with_len}
use Rattle.std.specs.Ordering.{is_le}
use Rattle.std.proofs.lemmas.Cmp.{nat_list_cmp_total, tied_itself}
use Rattle.cudf_problem.specs.Universe.{PlainProblem}
use Rattle.cudf_job.specs.Keys.{PlainKey, key_cmp, key_ranks, never_descend}
use Rattle.cudf_lrat.specs.declared.cnf.Literal.{Literal}
use Rattle.cudf_referee.specs.Instances.{PlainInstance}
use Rattle.cudf_referee.specs.Violations.{problem_instances}
use Rattle.cudf_referee.proofs.AscentLemmas.{Climbs, from_lower, instance_ranks, problem_ascends}
use Rattle.cudf_referee.proofs.ListLemmas.{and_left, and_right}
use Rattle.cudf_cnf.specs.Cnf.{Keyed, cnf, instance_clauses, keyed_clauses}
use Rattle.cudf_cnf.specs.Laws.{KeysNeverDescend}

-- ---- all of them

abbrev keys : List Keyed → List PlainKey
keys cs = map (λ c. c.0) cs

-- none of the clauses is of a key before this one
abbrev none_before : PlainKey → List Keyed → Bool
none_before key cs = list_all (λ later. is_le (key_cmp key later)) (keys cs)

-- clauses of one key before others
one_key : (key own : PlainKey) (clauses : List (List Literal)) (cs : List Keyed) → is_le (key_cmp key own) ≡ true → none_before key cs ≡ true
    → none_before key (map (λ clause. (own, clause)) clauses ++ cs) ≡ true
one_key key own [] cs h k = k
one_key key own (clause ∷ clauses) cs h k = λ i. h i && one_key key own clauses cs h k i

one_key_descends : (key : PlainKey) (clauses : List (List Literal)) (cs : List Keyed) → none_before key cs ≡ true → never_descend (keys cs) ≡ true
    → never_descend (keys (map (λ clause. (key, clause)) clauses ++ cs)) ≡ true
one_key_descends key [] cs h k = k
one_key_descends key (clause ∷ clauses) cs h k =
    λ i. one_key key key clauses cs (ap is_le (tied_itself nat_list_cmp_total (key_ranks key))) h i && one_key_descends key clauses cs h k i

module _ (problem : PlainProblem) where
  -- where instances climb, the keys of their clauses never descend
  none_earlier : (key : PlainKey) (is : List PlainInstance) (high : List ℕ) → Climbs instance_ranks (key_ranks key) is high → none_before key (flat_map (keyed_clauses problem) is) ≡ true
  none_earlier key [] high h = refl
  none_earlier key (i ∷ is) high h =
      one_key key i.key (instance_clauses problem i) (flat_map (keyed_clauses problem) is) (ap is_le h.0)
      (none_earlier key is high (from_lower instance_ranks (key_ranks key) (key_ranks i.key) high is h.0 h.1))

  climbing_never_descends : (low : List ℕ) (is : List PlainInstance) (high : List ℕ) → Climbs instance_ranks low is high → never_descend (keys (flat_map (keyed_clauses problem) is)) ≡ true
  climbing_never_descends low [] high h = refl
  climbing_never_descends low (i ∷ is) high h =
      one_key_descends i.key (instance_clauses problem i) (flat_map (keyed_clauses problem) is) (none_earlier i.key is high h.1)
      (climbing_never_descends (instance_ranks i) is high h.1)

pub keys_never_descend : KeysNeverDescend
unfolding cnf
keys_never_descend problem = climbing_never_descends problem [] (problem_instances problem) (4 ∷ []) (problem_ascends problem)

-- ---- some of them

-- the clauses whose numbers, counted from n, pass
abbrev chosen : (ℕ → Bool) → ℕ → List Keyed → List Keyed
chosen p n [] = []
chosen p n (c ∷ cs) = cond (p n) (c ∷ chosen p (n + 1) cs) (chosen p (n + 1) cs)

got_one : (get : ℕ → Option Keyed) (b : Bool) (n : ℕ) (ns : List ℕ) (c : Keyed) (cs : List Keyed) → get n ≡ Some c → filter_map get ns ≡ cs
    → filter_map get (cond b (n ∷ ns) ns) ≡ cond b (c ∷ cs) cs
got_one get true n ns c cs is more = λ i. cons_option (is i) (more i)
got_one get false n ns c cs is more = more

got : (get : ℕ → Option Keyed) (p : ℕ → Bool) (n : ℕ) (cs : List Keyed) → ((i m : ℕ) → m ≡ n + i → get m ≡ slice_get cs i)
    → filter_map get (filter p (range_with_len n (length cs))) ≡ chosen p n cs
got get p n [] at = refl
got get p n (c ∷ cs) at =
    got_one get (p n) n (filter p (range_with_len (n + 1) (length cs))) c (chosen p (n + 1) cs) (at 0 n (omega arith))
    (got get p (n + 1) cs (λ i m e. at (suc i) m (omega arith)))

all_one : (test : PlainKey → Bool) (b : Bool) (c : Keyed) (cs : List Keyed) → test c.0 ≡ true → list_all test (map (λ c. c.0) cs) ≡ true
    → list_all test (map (λ c. c.0) (cond b (c ∷ cs) cs)) ≡ true
all_one test true c cs h k = λ i. h i && k i
all_one test false c cs h k = k

all_chosen : (test : PlainKey → Bool) (p : ℕ → Bool) (n : ℕ) (cs : List Keyed) → list_all test (map (λ c. c.0) cs) ≡ true → list_all test (map (λ c. c.0) (chosen p n cs)) ≡ true
all_chosen test p n [] h = refl
all_chosen test p n (c ∷ cs) h =
    all_one test (p n) c (chosen p (n + 1) cs) (and_left (test c.0) (list_all test (map (λ c. c.0) cs)) h)
    (all_chosen test p (n + 1) cs (and_right (test c.0) (list_all test (map (λ c. c.0) cs)) h))

chosen_one : (b : Bool) (c : Keyed) (cs : List Keyed) → list_all (λ later. is_le (key_cmp c.0 later)) (map (λ c. c.0) cs) ≡ true → never_descend (map (λ c. c.0) cs) ≡ true
    → never_descend (map (λ c. c.0) (cond b (c ∷ cs) cs)) ≡ true
chosen_one true c cs h k = λ i. h i && k i
chosen_one false c cs h k = k

chosen_never_descend : (p : ℕ → Bool) (n : ℕ) (cs : List Keyed) → never_descend (map (λ c. c.0) cs) ≡ true → never_descend (map (λ c. c.0) (chosen p n cs)) ≡ true
chosen_never_descend p n [] h = refl
chosen_never_descend p n (c ∷ cs) h =
    chosen_one (p n) c (chosen p (n + 1) cs)
    (all_chosen (λ later. is_le (key_cmp c.0 later)) p (n + 1) cs (and_left (list_all (λ later. is_le (key_cmp c.0 later)) (map (λ c. c.0) cs)) (never_descend (map (λ c. c.0) cs)) h))
    (chosen_never_descend p (n + 1) cs (and_right (list_all (λ later. is_le (key_cmp c.0 later)) (map (λ c. c.0) cs)) (never_descend (map (λ c. c.0) cs)) h))

-- where the keys of all clauses never descend, those of the clauses of some numbers, from 1, don't either
pub some_never_descend : (clauses : List Keyed) (p : ℕ → Bool) → IsTrue (never_descend (map (λ c. c.0) clauses))
    → IsTrue (never_descend (map (λ c. c.0) (filter_map (λ n. slice_get clauses (n - 1)) (filter p (range_with_len 1 (length clauses))))))
some_never_descend clauses p h =
    ap (λ cs. never_descend (map (λ (c : Keyed). c.0) cs)) (got (λ n. slice_get clauses (n - 1)) p 1 clauses at) ∙ chosen_never_descend p 1 clauses h
  where
    at : (i m : ℕ) → m ≡ 1 + i → slice_get clauses (m - 1) ≡ slice_get clauses i
    at i m e = let same : m - 1 ≡ i = omega arith in ap (slice_get clauses) same
