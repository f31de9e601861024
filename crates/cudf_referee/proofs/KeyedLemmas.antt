-- The one instance of a key, among instances that ascend.
use Rattle.std.proofs.Common.{◌≡◌, ℕ, zero, suc, ◌<◌, List, [], ◌∷◌, length, get_or, cond, arith, refl, ap, sym, ◌∙◌, Some}
use Rattle.std.specs.Prelude.{Contains, find}
use Rattle.std.specs.Cmp.Lexicographic.{slice_cmp}
use Rattle.std.specs.Ordering.{nat_cmp, is_eq}
use Rattle.std.proofs.lemmas.Cmp.{nat_list_cmp_total, tied_itself}
use Rattle.cudf_problem.specs.Universe.{PlainProblem}
use Rattle.cudf_job.specs.Keys.{key_ranks}
use Rattle.cudf_referee.specs.Instances.{PlainInstance}
use Rattle.cudf_referee.specs.Violations.{problem_instances, instance_of}
use Rattle.cudf_referee.specs.Working.Sought.{has_key}
use Rattle.cudf_referee.proofs.AscentLemmas.{Below, chained, Climbs, instance_ranks, problem_ascends}

-- nothing comes before itself
never_below : (a b : List ℕ) → a ≡ b → Below a b → ⊥
never_below a b same h = cc (sym (ap (slice_cmp nat_cmp a) same) ∙ tied_itself nat_list_cmp_total a, h)

-- each comes after what all climb from
pub all_above : (low : List ℕ) (xs : List PlainInstance) (high : List ℕ) → Climbs instance_ranks low xs high → (k : ℕ) (d : PlainInstance) → k < length xs → Below low (instance_ranks (get_or xs k d))
all_above low [] high h k d inside = absurd (omega arith)
all_above low (x ∷ xs) high h zero d inside = h.0
all_above low (x ∷ xs) high h (suc k) d inside = chained low (instance_ranks x) (instance_ranks (get_or xs k d)) h.0 (all_above (instance_ranks x) xs high h.1 k d (omega arith))

-- two with equal ranks are the same one
same_at : (low : List ℕ) (xs : List PlainInstance) (high : List ℕ) → Climbs instance_ranks low xs high → (m n : ℕ) (d e : PlainInstance) → m < length xs → n < length xs
    → instance_ranks (get_or xs m d) ≡ instance_ranks (get_or xs n e) → get_or xs m d ≡ get_or xs n e
same_at low [] high h m n d e m_in n_in same = absurd (omega arith)
same_at low (x ∷ xs) high h zero zero d e m_in n_in same = refl
same_at low (x ∷ xs) high h zero (suc n) d e m_in n_in same = absurd (never_below (instance_ranks x) (instance_ranks (get_or xs n e)) same (all_above (instance_ranks x) xs high h.1 n e (omega arith)))
same_at low (x ∷ xs) high h (suc m) zero d e m_in n_in same = absurd (never_below (instance_ranks x) (instance_ranks (get_or xs m d)) (sym same) (all_above (instance_ranks x) xs high h.1 m d (omega arith)))
same_at low (x ∷ xs) high h (suc m) (suc n) d e m_in n_in same = same_at (instance_ranks x) xs high h.1 m n d e (omega arith) (omega arith) same

-- the one at an index is the first that has its key
found_at : (low : List ℕ) (xs : List PlainInstance) (high : List ℕ) → Climbs instance_ranks low xs high → (k : ℕ) (d : PlainInstance) → k < length xs → find (has_key (get_or xs k d).key) xs ≡ Some (get_or xs k d)
found_at low [] high h k d inside = absurd (omega arith)
found_at low (x ∷ xs) high h zero d inside = ap (λ o. cond (is_eq o) (Some x) (find (has_key x.key) xs)) (tied_itself nat_list_cmp_total (key_ranks x.key))
found_at low (x ∷ xs) high h (suc k) d inside =
    ap (λ o. cond (is_eq o) (Some x) (find (has_key (get_or xs k d).key) xs)) (all_above (instance_ranks x) xs high h.1 k d (omega arith)) ∙ found_at (instance_ranks x) xs high h.1 k d (omega arith)

-- ---- of a problem

-- two instances of a key are the same one
pub one_of_key : (problem : PlainProblem) (i j : PlainInstance) → Contains (problem_instances problem) i → Contains (problem_instances problem) j → i.key ≡ j.key → i ≡ j
one_of_key problem i j i_is j_is same =
    sym i_is.2 ∙ same_at [] (problem_instances problem) (4 ∷ []) (problem_ascends problem) i_is.0 j_is.0 i j i_is.1 j_is.1
    (ap instance_ranks i_is.2 ∙ ap key_ranks same ∙ sym (ap instance_ranks j_is.2)) ∙ j_is.2

-- it is the one of its key
pub instance-found : (problem : PlainProblem) (i : PlainInstance) → Contains (problem_instances problem) i → instance_of problem i.key ≡ Some i
instance-found problem i is =
    ap (λ (j : PlainInstance). instance_of problem j.key) (sym is.2) ∙ found_at [] (problem_instances problem) (4 ∷ []) (problem_ascends problem) is.0 i is.1 ∙ ap Some is.2
