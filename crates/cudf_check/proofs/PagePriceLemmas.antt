-- What the calls for a page cost, one after another.
use Rattle.std.proofs.Common.{◌≡◌, ℕ, zero, suc, ◌+◌, ◌≤◌, List, [], ◌∷◌, ◌++◌, length, take, drop, Option, Some, None, ◌-◌, arith, refl, ap, sym, ◌∙◌, subst, add-one}
use Rattle.std.proofs.lemmas.List.{length-drop, take_all}
use Rattle.std.specs.Prelude.{slice_get}
use Rattle.cudf_index.specs.Promises.Prices.{digits}
use Rattle.cudf_referee.specs.Instances.{PlainInstance}
use Rattle.cudf_job.specs.Keys.{PlainKey}
use Rattle.cudf_referee.specs.Promises.Pages.{behind, at_instance, left_at, calls, cost_along, page_price}
use Rattle.cudf_referee.specs.Proposals.{Proposal}
use Rattle.cudf_referee.specs.Promises.Stops.{PlainPosition, at_key, at_end, cost_between}
use Rattle.cudf_referee.specs.Promises.Walks.{Walking, left, Moves}
use Rattle.cudf_job.specs.declared.key.Key.{Key}
use Rattle.cudf_check.specs.Working.Pages.{positions, last_position, HasSpent, IsSpent, page_size}
use Rattle.cudf_check.proofs.PageLemmas.{step}

-- one call more
pub cost-more : (s : Proposal) (old : PlainPosition) (ps : List PlainPosition) (p : PlainPosition)
    → cost_along s old (ps ++ p ∷ []) ≡ cost_along s old ps + cost_between s (last_position old ps) p
cost-more s old [] p = omega arith
cost-more s old (q ∷ ps) p = omega (arith, cost-more s q ps p)

pub last-more : (old : PlainPosition) (ps : List PlainPosition) (p : PlainPosition) → last_position old (ps ++ p ∷ []) ≡ p
last-more old [] p = refl
last-more old (q ∷ ps) p = last-more q ps p

pub positions-more : (is : List PlainInstance) (i : PlainInstance) → positions (is ++ i ∷ []) ≡ positions is ++ at_key i.key ∷ []
positions-more [] i = refl
positions-more (j ∷ is) i = ap (λ ps. at_key j.key ∷ ps) (positions-more is i)

-- fewer calls cost no more
pub cost-first : (s : Proposal) (old : PlainPosition) (ps qs : List PlainPosition) → cost_along s old ps ≤ cost_along s old (ps ++ qs)
cost-first s old [] qs = omega arith
cost-first s old (p ∷ ps) qs = omega (arith, cost-first s p ps qs)

-- the calls for a page are those for its instances, where there are so many, and one more
pub calls-whole : (is : List PlainInstance) (n : ℕ) → n ≤ length is → calls is n ≡ positions (take n is) ++ at_instance (slice_get (drop n is) 0) ∷ []
calls-whole [] zero h = refl
calls-whole [] (suc n) h = absurd (omega arith)
calls-whole (i ∷ is) zero h = refl
calls-whole (i ∷ is) (suc n) h =
    ap (λ m. take m (positions (i ∷ is) ++ at_end ∷ [])) (add-one (suc n))
    ∙ ap (λ ps. at_key i.key ∷ ps) (ap (λ m. take m (positions is ++ at_end ∷ [])) (sym (add-one n)) ∙ calls-whole is n (omega arith))

-- where there are fewer, they go to all and to the end
pub calls-ended : (is : List PlainInstance) (n : ℕ) → length is ≤ n → calls is n ≡ positions is ++ at_end ∷ []
calls-ended [] zero h = refl
calls-ended [] (suc n) h = ap (λ m. take m (at_end ∷ [])) (add-one (suc n)) ∙ refl
calls-ended (i ∷ is) zero h = absurd (omega arith)
calls-ended (i ∷ is) (suc n) h =
    ap (λ m. take m (positions (i ∷ is) ++ at_end ∷ [])) (add-one (suc n))
    ∙ ap (λ ps. at_key i.key ∷ ps) (ap (λ m. take m (positions is ++ at_end ∷ [])) (sym (add-one n)) ∙ calls-ended is n (omega arith))

-- the calls for the first instances of a page cost no more than those for the page
pub within : (s : Proposal) (old : PlainPosition) (is : List PlainInstance) (n limit : ℕ) → n ≤ length is → n ≤ limit
    → cost_along s old (positions (take n is)) ≤ cost_along s old (calls is limit)
within s old [] zero limit h k = omega arith
within s old [] (suc n) limit h k = absurd (omega arith)
within s old (i ∷ is) zero limit h k = omega arith
within s old (i ∷ is) (suc n) zero h k = absurd (omega arith)
within s old (i ∷ is) (suc n) (suc limit) h k =
    let later : cost_along s (at_key i.key) (positions (take n is)) ≤ cost_along s (at_key i.key) (calls is limit) = within s (at_key i.key) is n limit (omega arith) (omega arith) in
    let whole : cost_along s old (calls (i ∷ is) (suc limit)) ≡ cost_between s old (at_key i.key) + cost_along s (at_key i.key) (calls is limit) =
    ap (λ m. cost_along s old (take m (positions (i ∷ is) ++ at_end ∷ []))) (add-one (suc limit))
    ∙ ap (λ m. cost_between s old (at_key i.key) + cost_along s (at_key i.key) (take m (positions is ++ at_end ∷ []))) (sym (add-one limit)) in
    omega (arith, later, whole)

-- ---- what a walk has spent

-- one instance more
pub spent-more : (taken : List PlainInstance) (i : PlainInstance) (old now new : Walking) → HasSpent taken old now → Moves now (Some i) new
    → HasSpent (taken ++ i ∷ []) old new
spent-more taken i old now new h moves =
    let more : positions (taken ++ i ∷ []) ≡ positions taken ++ at_key i.key ∷ [] = positions-more taken i in
    let cost : cost_along old.judged old.position (positions (taken ++ i ∷ [])) ≡ cost_along old.judged old.position (positions taken) + cost_between old.judged (last_position old.position (positions taken)) (at_key i.key) =
    ap (cost_along old.judged old.position) more ∙ cost-more old.judged old.position (positions taken) (at_key i.key) in
    let way : cost_between now.judged now.position new.position ≡ cost_between old.judged (last_position old.position (positions taken)) (at_key i.key) =
    λ k. cost_between (h.judged k) (h.position k) (moves.position k) in
    record {
      judged = moves.judged ∙ h.judged;
      position = moves.position ∙ sym (ap (last_position old.position) more ∙ last-more old.position (positions taken) (at_key i.key));
      steps = omega (arith, h.steps, moves.price, cost, way);
    }

pub spent-whole : (limit : ℕ) (old new : Walking) (last : Option Key) → HasSpent (take limit (left old)) old new → limit ≤ length (left old) → IsSpent limit old new last
spent-whole limit old new None h k = tt
spent-whole limit old new (Some key) h k = (h, k)

-- within a page
pub price-within : (old new : Walking) (n limit : ℕ) → n ≤ length (left old) → n ≤ limit → HasSpent (take n (left old)) old new
    → new.steps ≤ old.steps + cost_along old.judged old.position (calls (left old) limit)
price-within old new n limit h k spent = omega (arith, spent.steps, within old.judged old.position (left old) n limit h k)

-- at the end of a page that is shorter
pub price-ended : (old now new : Walking) (n limit : ℕ) → n ≤ length (left old) → n ≤ limit → drop n (left old) ≡ [] → HasSpent (take n (left old)) old now → Moves now None new
    → new.steps ≤ old.steps + cost_along old.judged old.position (calls (left old) limit)
price-ended old now new n limit h k none spent moves =
    let length_is : length (left old) - n ≡ 0 = sym (length-drop n (left old)) ∙ ap length none in
    let whole : positions (take n (left old)) ≡ positions (left old) = ap positions (take_all n (left old) (omega arith)) in
    let cost : cost_along old.judged old.position (calls (left old) limit) ≡ cost_along old.judged old.position (positions (take n (left old))) + cost_between old.judged (last_position old.position (positions (take n (left old)))) at_end =
    ap (cost_along old.judged old.position) (calls-ended (left old) limit (omega arith) ∙ ap (λ ps. ps ++ at_end ∷ []) (sym whole)) ∙ cost-more old.judged old.position (positions (take n (left old))) at_end in
    let way : cost_between now.judged now.position new.position ≡ cost_between old.judged (last_position old.position (positions (take n (left old)))) at_end =
    λ j. cost_between (spent.judged j) (spent.position j) (moves.position j) in
    omega (arith, spent.steps, moves.price, cost, way)

-- at the end of a whole page, with the call that looks for more
pub price-whole : (old now : Walking) (steps limit : ℕ) → limit ≤ length (left old) → HasSpent (take limit (left old)) old now → left now ≡ drop limit (left old)
    → steps ≤ now.steps + cost_between now.judged now.position (at_instance (slice_get (left now) 0))
    → steps ≤ old.steps + cost_along old.judged old.position (calls (left old) limit)
price-whole old now steps limit h spent left_is price =
    let ps = positions (take limit (left old)) in
    let next = at_instance (slice_get (drop limit (left old)) 0) in
    let cost : cost_along old.judged old.position (calls (left old) limit) ≡ cost_along old.judged old.position ps + cost_between old.judged (last_position old.position ps) next =
    ap (cost_along old.judged old.position) (calls-whole (left old) limit h) ∙ cost-more old.judged old.position ps next in
    let way : cost_between now.judged now.position (at_instance (slice_get (left now) 0)) ≡ cost_between old.judged (last_position old.position ps) next =
    λ j. cost_between (spent.judged j) (spent.position j) (at_instance (slice_get (left_is j) 0)) in
    omega (arith, spent.steps, price, cost, way)

-- ---- a page without a limit

-- some instances were taken
pub record HasTaken (old now : Walking) : Type 0 where
  pub number : ℕ
  pub left_is : left now ≡ drop number (left old)
  pub within : number ≤ length (left old)
  pub spent : HasSpent (take number (left old)) old now

unfoldable pub taken-start : (old : Walking) → HasTaken old old
taken-start old = record {
  number = 0;
  left_is = refl;
  within = omega arith;
  spent = record { judged = refl; position = refl; steps = omega arith };
}

unfoldable pub taken-more : (i : PlainInstance) (old now new : Walking) → HasTaken old now → Moves now (Some i) new → HasTaken old new
taken-more i old now new h moves =
    let one = step (left old) h.number i (left new) (sym h.left_is ∙ moves.gives) in
    record {
      number = h.number + 1;
      left_is = one.left_is;
      within = one.below;
      spent = subst (λ xs. HasSpent xs old new) (sym one.taken) (spent-more (take h.number (left old)) i old now new h.spent moves);
    }

pub price-taken : (old now : Walking) → HasTaken old now → now.steps ≤ old.steps + cost_along old.judged old.position (calls (left old) (length (left old)))
price-taken old now h = price-within old now h.number (length (left old)) h.within h.within h.spent

pub price-all : (old now new : Walking) → HasTaken old now → Moves now None new → new.steps ≤ old.steps + cost_along old.judged old.position (calls (left old) (length (left old)))
price-all old now new h moves = price-ended old now new h.number (length (left old)) h.within h.within (sym h.left_is ∙ moves.gives.0) h.spent moves

-- ---- the whole page

-- the search of the unknown stanzas, and the calls
pub price-page : (s : Proposal) (after : Option PlainKey) (limit : Option ℕ) (old : Walking) (steps : ℕ) (is : List PlainInstance) → left old ≡ is
    → old.judged ≡ s → old.position ≡ behind after → old.steps ≤ digits (length s.unknown)
    → steps ≤ old.steps + cost_along old.judged old.position (calls (left old) (page_size limit (left old)))
    → steps ≤ page_price s after (page_size limit is)
price-page s after limit old steps is same judged position started price =
    let way : cost_along old.judged old.position (calls (left old) (page_size limit (left old))) ≡ cost_along s (behind after) (calls (left_at (behind after) s) (page_size limit (left old))) =
    λ k. cost_along (judged k) (position k) (calls (left_at (position k) (judged k)) (page_size limit (left old))) in
    let size = ap (λ js. cost_along s (behind after) (calls (left_at (behind after) s) (page_size limit js))) same in
    omega (arith, started, price, way, size)
