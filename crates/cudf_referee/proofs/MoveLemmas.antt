-- A search of the stops ahead goes to the first instance that is left, for what the way there costs.
use Rattle.std.proofs.Common.{◌≡◌, ℕ, ◌+◌, Bool, true, false, not, List, [], ◌∷◌, ◌++◌, filter, cond, length, arith, refl, ap, sym, ◌∙◌, subst, Option, Some, None, option_map}
use Rattle.std.proofs.lemmas.Cmp.{nat_list_cmp_total, tied_itself}
use Rattle.std.proofs.lemmas.List.Sums.{sum_by-cons}
use Rattle.std.specs.Prelude.{sum_by, is_some}
use Rattle.std.specs.Cmp.Lexicographic.{slice_cmp}
use Rattle.std.specs.List.{cons_option}
use Rattle.std.specs.Iterator.{YieldsFirst, MakesProgress, item_count}
use Rattle.std.specs.Ordering.{nat_cmp, is_lt}
use Rattle.cudf_problem.specs.Statuses.{ascend_above}
use Rattle.cudf_referee.specs.declared.instance.Instance.{Instance}
use Rattle.cudf_problem.specs.Documents.{is_empty}
use Rattle.cudf_referee.specs.Instances.{PlainInstance}
use Rattle.cudf_job.specs.Keys.{PlainKey, key_ranks}
use Rattle.cudf_referee.specs.Promises.Pages.{at_instance}
use Rattle.cudf_referee.specs.Proposals.{Proposal}
use Rattle.cudf_referee.specs.Promises.Stops.{Stop, stop_at, package_end, walk, stop_cost, least_cost, PlainPosition, at_start, at_key, at_end, precedes, is_after, is_ahead, stops_between, cost_between, least_between}
use Rattle.cudf_referee.specs.Promises.Views.{instance_view}
use Rattle.cudf_referee.specs.Promises.Walks.{Walking, left, Moves}
use Rattle.cudf_referee.specs.Violations.{is_violated}
use Rattle.cudf_referee.specs.Working.Judged.{given_at, all_given}
use Rattle.cudf_referee.specs.Working.Places.{ahead}
use Rattle.cudf_referee.specs.Working.Searches.{or_later, first_given, unless_found, sum_to_first, cost_to_first, least_to_first, Searches}
use Rattle.cudf_referee.proofs.AheadLemmas.{not_below, kept_above, after-ranks}
use Rattle.cudf_referee.proofs.ListLemmas.{none_kept, filter-both, weaker_case}
use Rattle.cudf_referee.proofs.AscentLemmas.{Below, chained, Climbs, from_lower, climbs-filter, walk-climbs}
use Rattle.cudf_referee.proofs.PositionLemmas.{stop_ranks, is_after-ranks, IsLater, later-key, later-start}
use Rattle.cudf_referee.proofs.SearchLemmas.{or_later-none, unless_found-zero}
use Rattle.cudf_referee.proofs.StopLemmas.{left-walk}

-- ---- what a stop gives

given_case : (violated : Bool) (i j : PlainInstance) → cond violated (Some i) None ≡ Some j → i ≡ j
given_case true i j h = cc
given_case false i j h = absurd (cc h)

-- an instance ranks where its stop does
pub given_ranks : (s : Proposal) (x : Stop) (i : PlainInstance) → given_at s x ≡ Some i → stop_ranks x ≡ key_ranks i.key
given_ranks s (stop_at x) i h = ap (λ (j : PlainInstance). key_ranks j.key) (given_case (is_violated s x) x i h)
given_ranks s (package_end n) i h = absurd (cc h)

pub first_case : (s : Proposal) (x : Stop) (xs : List Stop) (o : Option PlainInstance) → given_at s x ≡ o → first_given s (x ∷ xs) ≡ or_later o (first_given s xs)
first_case s x xs o e = ap (λ g. or_later g (first_given s xs)) e

-- what is given first comes after what all stops come after
first_above : (s : Proposal) (low : List ℕ) (xs : List Stop) (high : List ℕ) (i : PlainInstance) → Climbs stop_ranks low xs high → first_given s xs ≡ Some i → Below low (key_ranks i.key)
first_above s low [] high i h k = absurd (cc k)
first_above s low (x ∷ xs) high i h k = by (given_at s x) refl (first_above s (stop_ranks x) xs high i h.1)
  where
    by : (o : Option PlainInstance) → given_at s x ≡ o → (first_given s xs ≡ Some i → Below (stop_ranks x) (key_ranks i.key)) → Below low (key_ranks i.key)
    by None e later = chained low (stop_ranks x) (key_ranks i.key) h.0 (later (sym (first_case s x xs None e) ∙ k))
    by (Some j) e later = subst (λ (r : List ℕ). Below low r) (given_ranks s x i (e ∙ sym (first_case s x xs (Some j) e) ∙ k)) h.0

-- a stop doesn't come after the key of its instance, nor after that of an instance after it
not_after : (key : PlainKey) (x : Stop) → Below (stop_ranks x) (key_ranks key) → is_after key x ≡ false
not_after key x h = is_after-ranks key x ∙ not_below (stop_ranks x) (key_ranks key) h

not_after_own : (key : PlainKey) (x : Stop) → stop_ranks x ≡ key_ranks key → is_after key x ≡ false
not_after_own key x same = is_after-ranks key x ∙ ap (λ r. is_lt (slice_cmp nat_cmp (key_ranks key) r)) same ∙ ap is_lt (tied_itself nat_list_cmp_total (key_ranks key))

-- the stops after a key come after it
all_after : (key : PlainKey) (xs : List Stop) (high : List ℕ) → Climbs stop_ranks (key_ranks key) xs high → filter (is_after key) xs ≡ xs
all_after key xs high h = after-ranks key xs ∙ kept_above stop_ranks (key_ranks key) xs high h

none_before : (key : PlainKey) (xs : List Stop) (high : List ℕ) → Climbs stop_ranks (key_ranks key) xs high → filter (λ x. not (is_after key x)) xs ≡ []
none_before key [] high h = refl
none_before key (x ∷ xs) high h =
    let more = none_before key xs high (from_lower stop_ranks (key_ranks key) (stop_ranks x) high xs h.0 h.1) in
    (λ i. cond (not ((is_after-ranks key x ∙ ap is_lt h.0) i)) (x ∷ more i) (more i))

-- ---- what it costs to go to the first instance

-- the stops up to the first instance
abbrev up_to_first : Proposal → List Stop → Option PlainInstance → List Stop
up_to_first s xs found = filter (λ x. not (is_ahead (at_instance found) x)) xs

module _ (number : Stop → ℕ) (s : Proposal) (x : Stop) (xs : List Stop) (high : List ℕ) where
  abbrev total : List Stop → ℕ
  total stops = sum_by number stops

  passed_stop : Climbs stop_ranks (stop_ranks x) xs high → (found : Option PlainInstance) → first_given s xs ≡ found → is_ahead (at_instance found) x ≡ false
  passed_stop h None e = refl
  passed_stop h (Some i) e = not_after i.key x (first_above s (stop_ranks x) xs high i h e)

  -- a stop that gives nothing
  sum_on : Climbs stop_ranks (stop_ranks x) xs high → given_at s x ≡ None → sum_to_first number s xs ≡ total (up_to_first s xs (first_given s xs))
      → sum_to_first number s (x ∷ xs) ≡ total (up_to_first s (x ∷ xs) (first_given s (x ∷ xs)))
  sum_on h e more =
      ap (λ o. number x + unless_found o (sum_to_first number s xs)) e
      ∙ ap (λ n. number x + n) more
      ∙ sym (sum_by-cons number x (up_to_first s xs (first_given s xs)))
      ∙ sym (ap (λ b. total (cond (not b) (x ∷ up_to_first s xs (first_given s xs)) (up_to_first s xs (first_given s xs)))) (passed_stop h (first_given s xs) refl))
      ∙ ap (λ found. total (up_to_first s (x ∷ xs) found)) (sym (first_case s x xs None e))

  -- one that gives an instance
  sum_there : Climbs stop_ranks (stop_ranks x) xs high → (i : PlainInstance) → given_at s x ≡ Some i
      → sum_to_first number s (x ∷ xs) ≡ total (up_to_first s (x ∷ xs) (first_given s (x ∷ xs)))
  sum_there h i e =
      let same = given_ranks s x i e in
      ap (λ o. number x + unless_found o (sum_to_first number s xs)) e
      ∙ sym (sum_by-cons number x [])
      ∙ (λ j. total (cond (not (sym (not_after_own i.key x same) j)) (x ∷ sym (none_before i.key xs high (subst (λ (r : List ℕ). Climbs stop_ranks r xs high) same h)) j) (sym (none_before i.key xs high (subst (λ (r : List ℕ). Climbs stop_ranks r xs high) same h)) j)))
      ∙ ap (λ found. total (up_to_first s (x ∷ xs) found)) (sym (first_case s x xs (Some i) e))

sum_first : (number : Stop → ℕ) (s : Proposal) (low : List ℕ) (xs : List Stop) (high : List ℕ) → Climbs stop_ranks low xs high
    → sum_to_first number s xs ≡ sum_by number (up_to_first s xs (first_given s xs))
sum_first number s low [] high h = refl
sum_first number s low (x ∷ xs) high h = by (given_at s x) refl (sum_first number s (stop_ranks x) xs high h.1)
  where
    by : (o : Option PlainInstance) → given_at s x ≡ o → sum_to_first number s xs ≡ sum_by number (up_to_first s xs (first_given s xs))
        → sum_to_first number s (x ∷ xs) ≡ sum_by number (up_to_first s (x ∷ xs) (first_given s (x ∷ xs)))
    by None e more = sum_on number s x xs high h.1 e more
    by (Some i) e more = sum_there number s x xs high h.1 i e

-- the stops to the first instance that is left are those to its position
sum-ahead : (number : Stop → ℕ) (s : Proposal) (old : PlainPosition) → ascend_above 0 s.unknown ≡ true
    → sum_to_first number s (ahead s old) ≡ sum_by number (stops_between s old (at_instance (first_given s (ahead s old))))
sum-ahead number s old h =
    sum_first number s [] (ahead s old) (4 ∷ []) (climbs-filter stop_ranks (is_ahead old) [] (walk s) (4 ∷ []) (walk-climbs s h))
    ∙ ap (sum_by number) (sym (filter-both (is_ahead old) (λ x. not (is_ahead (at_instance (first_given s (ahead s old))) x)) (walk s)))

pub cost-first : (s : Proposal) (old : PlainPosition) → ascend_above 0 s.unknown ≡ true → cost_to_first s (ahead s old) ≡ cost_between s old (at_instance (first_given s (ahead s old)))
cost-first s old h = sum-ahead (stop_cost s.proposed) s old h

least-first : (s : Proposal) (old : PlainPosition) → ascend_above 0 s.unknown ≡ true → least_to_first s (ahead s old) ≡ least_between s old (at_instance (first_given s (ahead s old)))
least-first s old h = sum-ahead (least_cost s.proposed) s old h

-- ---- what is left there

none_given : (s : Proposal) (xs : List Stop) → first_given s xs ≡ None → all_given s xs ≡ []
none_given s [] h = refl
none_given s (x ∷ xs) h = by (given_at s x) refl (none_given s xs)
  where
    by : (o : Option PlainInstance) → given_at s x ≡ o → (first_given s xs ≡ None → all_given s xs ≡ []) → all_given s (x ∷ xs) ≡ []
    by None e more = ap (λ o. cons_option o (all_given s xs)) e ∙ more (sym (first_case s x xs None e) ∙ h)
    by (Some i) e more = absurd (cc (sym (first_case s x xs (Some i) e) ∙ h))

module _ (s : Proposal) (i : PlainInstance) (high : List ℕ) where
  -- the first instance, and then what the stops after it give
  abbrev Splits : List Stop → Type 0
  Splits xs = all_given s xs ≡ i ∷ all_given s (filter (is_after i.key) xs)

  some_on : (x : Stop) (xs : List Stop) → Climbs stop_ranks (stop_ranks x) xs high → first_given s xs ≡ Some i → given_at s x ≡ None → Splits xs → Splits (x ∷ xs)
  some_on x xs h first e more =
      ap (λ o. cons_option o (all_given s xs)) e ∙ more
      ∙ ap (λ b. i ∷ all_given s (cond b (x ∷ filter (is_after i.key) xs) (filter (is_after i.key) xs))) (sym (not_after i.key x (first_above s (stop_ranks x) xs high i h first)))

  some_there : (x : Stop) (xs : List Stop) → Climbs stop_ranks (stop_ranks x) xs high → given_at s x ≡ Some i → Splits (x ∷ xs)
  some_there x xs h e =
      let same = given_ranks s x i e in
      ap (λ o. cons_option o (all_given s xs)) e
      ∙ ap (λ stops. i ∷ all_given s stops) (sym (all_after i.key xs high (subst (λ (r : List ℕ). Climbs stop_ranks r xs high) same h)))
      ∙ ap (λ b. i ∷ all_given s (cond b (x ∷ filter (is_after i.key) xs) (filter (is_after i.key) xs))) (sym (not_after_own i.key x same))

  some_given : (low : List ℕ) (xs : List Stop) → Climbs stop_ranks low xs high → first_given s xs ≡ Some i → Splits xs
  some_given low [] h first = absurd (cc first)
  some_given low (x ∷ xs) h first = by (given_at s x) refl (some_given (stop_ranks x) xs h.1)
    where
      by : (o : Option PlainInstance) → given_at s x ≡ o → (first_given s xs ≡ Some i → Splits xs) → Splits (x ∷ xs)
      by None e more = let later = sym (first_case s x xs None e) ∙ first in some_on x xs h.1 later e (more later)
      by (Some j) e more = some_there x xs h.1 (e ∙ sym (first_case s x xs (Some j) e) ∙ first)

-- what a search of the stops after a key finds comes after it
pub found_after : (s : Proposal) (key : PlainKey) (i : PlainInstance) (xs : List Stop) → first_given s (filter (is_after key) xs) ≡ Some i → precedes key i.key ≡ true
found_after s key i [] h = absurd (cc h)
found_after s key i (x ∷ xs) h = by (is_after key x) refl (given_at s x) refl (found_after s key i xs)
  where
    more : List Stop
    more = filter (is_after key) xs

    by : (b : Bool) → is_after key x ≡ b → (o : Option PlainInstance) → given_at s x ≡ o → (first_given s (filter (is_after key) xs) ≡ Some i → precedes key i.key ≡ true) → precedes key i.key ≡ true
    by false later o e rest = rest (sym (ap (λ b. first_given s (cond b (x ∷ more) more)) later) ∙ h)
    by true later None e rest = rest (sym (first_case s x more None e) ∙ sym (ap (λ b. first_given s (cond b (x ∷ more) more)) later) ∙ h)
    by true later (Some j) e rest =
        ap (λ r. is_lt (slice_cmp nat_cmp (key_ranks key) r)) (sym (given_ranks s x i (e ∙ sym (first_case s x more (Some j) e) ∙ sym (ap (λ b. first_given s (cond b (x ∷ more) more)) later) ∙ h)))
        ∙ sym (is_after-ranks key x) ∙ later

found_later : (s : Proposal) (old : PlainPosition) (i : PlainInstance) → first_given s (ahead s old) ≡ Some i → IsLater old (at_key i.key)
found_later s at_start i h = later-start (at_key i.key)
found_later s (at_key key) i h = later-key key i.key (found_after s key i (walk s) h)
found_later s at_end i h = absurd (cc (sym (ap (first_given s) (none_kept (is_ahead at_end) (λ x. refl) (walk s))) ∙ h))

-- the stops after the instance lie ahead
ahead_there : (s : Proposal) (old : PlainPosition) (i : PlainInstance) → first_given s (ahead s old) ≡ Some i → filter (is_after i.key) (ahead s old) ≡ filter (is_after i.key) (walk s)
ahead_there s old i h =
    sym (filter-both (is_ahead old) (is_after i.key) (walk s))
    ∙ ap (λ test. filter test (walk s)) (λ j x. weaker_case (is_ahead old x) (is_after i.key x) ((found_later s old i h).ahead x) j)

abbrev pub walking : Proposal → PlainPosition → ℕ → Walking
walking s position steps = record { judged = s; position = position; steps = steps }

yields : (s : Proposal) (old : PlainPosition) (n m : ℕ) → ascend_above 0 s.unknown ≡ true → (found : Option PlainInstance) → first_given s (ahead s old) ≡ found
    → YieldsFirst left (walking s old n) found (walking s (at_instance found) m)
yields s old n m h None first = (left-walk old s ∙ none_given s (ahead s old) first, refl)
yields s old n m h (Some i) first =
    left-walk old s ∙ some_given s i (4 ∷ []) [] (ahead s old) (climbs-filter stop_ranks (is_ahead old) [] (walk s) (4 ∷ []) (walk-climbs s h)) first
    ∙ ap (λ stops. i ∷ all_given s stops) (ahead_there s old i first)
    ∙ ap (λ is. i ∷ is) (sym (left-walk (at_key i.key) s))

-- so a search of the stops ahead is a move
moves : (old there : Walking) (found : Option PlainInstance) → ascend_above 0 old.judged.unknown ≡ true → Searches old (ahead old.judged old.position) found there
    → Moves old found (walking old.judged (at_instance found) there.steps)
moves old there found h searches =
    let s = old.judged in
    let first : first_given s (ahead s old.position) ≡ found = searches.given ∙ or_later-none found in
    record {
      gives = yields s old.position old.steps there.steps h found first;
      position = refl;
      judged = refl;
      price = omega (arith, searches.price, unless_found-zero found, cost-first s old.position h, ap (λ o. cost_between s old.position (at_instance o)) first);
      grows = omega (arith, searches.grows, unless_found-zero found, least-first s old.position h, ap (λ o. least_between s old.position (at_instance o)) first);
    }

-- ---- moves

-- a search of the stops ahead, and then the position after what it found, is a move
pub searched : (old there new : Walking) (found : Option PlainInstance) → ascend_above 0 old.judged.unknown ≡ true → Searches old (ahead old.judged old.position) found there
    → new ≡ walking there.judged (at_instance found) there.steps → Moves old found new
searched old there new found h searches is =
    subst (λ (w : Walking). Moves old found w) ((λ i. walking (sym searches.judged i) (at_instance found) there.steps) ∙ sym is) (moves old there found h searches)

-- a move makes progress
pub moved-on : (can : Walking → Type 0) → ((w : Walking) → can w) → (old : Walking) (r : Option Instance) (new : Walking) → Moves old (option_map instance_view r) new
    → MakesProgress can (item_count left) old r new
moved-on can allowed old None new moves = record { on = λ h. tt; keeps = tt; rests = λ h. tt }
moved-on can allowed old (Some i) new moves = record { on = λ h. (allowed new, tt, omega (arith, ap length moves.gives)); keeps = allowed new; rests = λ h. tt }

-- nothing is found exactly where nothing is left
pub moved_none : (old : Walking) (r : Option Instance) (new : Walking) (none : Bool) → Moves old (option_map instance_view r) new → is_some r ≡ not none → none ≡ is_empty (left old)
moved_none old None new true moves h = ap is_empty (sym moves.gives.0)
moved_none old None new false moves h = absurd (cc h)
moved_none old (Some i) new true moves h = absurd (cc h)
moved_none old (Some i) new false moves h = ap is_empty (sym moves.gives)

-- ---- what is left after a stop that was come to

-- a stop of a list that climbs comes after its lower bound
below-later : (a : List ℕ) (pre : List Stop) (x : Stop) (left : List Stop) (high : List ℕ) → Climbs stop_ranks a (pre ++ x ∷ left) high → Below a (stop_ranks x)
below-later a [] x left high h = h.0
below-later a (y ∷ pre) x left high h = chained a (stop_ranks y) (stop_ranks x) h.0 (below-later (stop_ranks y) pre x left high h.1)

-- of stops that climb those that come after one's key are those after it
pub behind-stop : (key : PlainKey) (low : List ℕ) (pre : List Stop) (x : Stop) (left : List Stop) (high : List ℕ) → Climbs stop_ranks low (pre ++ x ∷ left) high
    → stop_ranks x ≡ key_ranks key → filter (is_after key) (pre ++ x ∷ left) ≡ left
behind-stop key low [] x left high h same =
    ap (λ b. cond b (x ∷ filter (is_after key) left) (filter (is_after key) left)) (not_after_own key x same)
    ∙ all_after key left high (subst (λ (r : List ℕ). Climbs stop_ranks r left high) same h.1)
behind-stop key low (y ∷ pre) x left high h same =
    ap (λ b. cond b (y ∷ filter (is_after key) (pre ++ x ∷ left)) (filter (is_after key) (pre ++ x ∷ left)))
    (not_after key y (subst (λ (r : List ℕ). Below (stop_ranks y) r) same (below-later (stop_ranks y) pre x left high h.1)))
    ∙ behind-stop key (stop_ranks y) pre x left high h.1 same

-- where a walk has come to a stop that gives an instance, what is ahead of the instance are the stops that are left
pub ahead-left : (s : Proposal) (old : PlainPosition) (i : PlainInstance) (pre : List Stop) (x : Stop) (left : List Stop) → ascend_above 0 s.unknown ≡ true
    → first_given s (ahead s old) ≡ Some i → ahead s old ≡ pre ++ x ∷ left → stop_ranks x ≡ key_ranks i.key → ahead s (at_key i.key) ≡ left
ahead-left s old i pre x left h first is same =
    sym (ahead_there s old i first)
    ∙ ap (filter (is_after i.key)) is
    ∙ behind-stop i.key [] pre x left (4 ∷ []) (subst (λ (xs : List Stop). Climbs stop_ranks [] xs (4 ∷ [])) is (climbs-filter stop_ranks (is_ahead old) [] (walk s) (4 ∷ []) (walk-climbs s h))) same
