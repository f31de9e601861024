-- The listing is what the stops of the walk give, and what is left after a position is what the stops ahead give.
use Rattle.std.proofs.Common.{◌≡◌, Bool, true, false, List, [], ◌∷◌, ◌++◌, map, filter, cond, Option, Some, None, refl, ap, sym, ◌∙◌, append_assoc}
use Rattle.std.specs.Prelude.{filter_map}
use Rattle.std.specs.List.{flat_map, enumerate_from, cons_option}
use Rattle.std.proofs.lemmas.List.{append-nil}
use Rattle.std.proofs.lemmas.List.Elements.{filter-append, filter_map-append}
use Rattle.cudf_index.specs.Satisfaction.{Placed}
use Rattle.cudf_referee.specs.Instances.{PlainInstance}
use Rattle.cudf_job.specs.Keys.{PlainKey}
use Rattle.cudf_referee.specs.Proposals.{Proposal}
use Rattle.cudf_referee.specs.Violations.{package_instances, request_instances, unknown_instance, is_violated, listing}
use Rattle.cudf_referee.specs.Promises.Stops.{Stop, stop_at, package_end, package_stops, walk, PlainPosition, at_start, at_key, at_end, precedes, is_after, is_ahead}
use Rattle.cudf_referee.specs.Promises.Pages.{left_at}
use Rattle.cudf_referee.specs.Working.Judged.{given_at, all_given}
use Rattle.cudf_referee.proofs.ListLemmas.{all_kept, none_kept}

-- ---- the walk gives the listing

kept_or_not : {A : Type 0} (b : Bool) (x : A) (xs : List A) → cons_option (cond b (Some x) None) xs ≡ cond b (x ∷ xs) xs
kept_or_not true x xs = refl
kept_or_not false x xs = refl

-- stops at instances give those that are violated
pub stops_given : (s : Proposal) (xs : List PlainInstance) → all_given s (map stop_at xs) ≡ filter (is_violated s) xs
stops_given s [] = refl
stops_given s (x ∷ xs) = kept_or_not (is_violated s x) x (all_given s (map stop_at xs)) ∙ ap (λ ys. cond (is_violated s x) (x ∷ ys) ys) (stops_given s xs)

package_given : (s : Proposal) (p : Placed) → all_given s (package_stops s p) ≡ filter (is_violated s) (package_instances s p)
package_given s p =
    filter_map-append (given_at s) (map stop_at (package_instances s p)) (package_end p.0 ∷ [])
    ∙ append-nil (all_given s (map stop_at (package_instances s p))) ∙ stops_given s (package_instances s p)

packages_given : (s : Proposal) (ps : List Placed) → all_given s (flat_map (package_stops s) ps) ≡ filter (is_violated s) (flat_map (package_instances s) ps)
packages_given s [] = refl
packages_given s (p ∷ ps) =
    filter_map-append (given_at s) (package_stops s p) (flat_map (package_stops s) ps)
    ∙ (λ i. package_given s p i ++ packages_given s ps i)
    ∙ sym (filter-append (is_violated s) (package_instances s p) (flat_map (package_instances s) ps))

pub listing-walk : (s : Proposal) → listing s ≡ all_given s (walk s)
unfolding listing walk
listing-walk s =
    let packages = enumerate_from 1 s.problem.packages in
    let own = flat_map (package_instances s) packages in
    let others = request_instances s.problem.request ++ map unknown_instance s.unknown in
    ap (filter (is_violated s)) (append_assoc own (request_instances s.problem.request) (map unknown_instance s.unknown))
    ∙ filter-append (is_violated s) own others
    ∙ (λ i. sym (packages_given s packages) i ++ sym (stops_given s others) i)
    ∙ sym (filter_map-append (given_at s) (flat_map (package_stops s) packages) (map stop_at others))

-- ---- what is left after a position

later_case : {A B : Type 0} (violated after : Bool) (test : B → Bool) (g : A → Option B) (x : A) (i : B) (is : List B) (xs : List A)
    → g x ≡ cond violated (Some i) None → test i ≡ after → filter test is ≡ filter_map g xs
    → filter test (cons_option (cond violated (Some i) None) is) ≡ filter_map g (cond after (x ∷ xs) xs)
later_case true true test g x i is xs gives same below = (λ j. cond (same j) (i ∷ below j) (below j)) ∙ ap (λ o. cons_option o (filter_map g xs)) (sym gives)
later_case true false test g x i is xs gives same below = λ j. cond (same j) (i ∷ below j) (below j)
later_case false true test g x i is xs gives same below = below ∙ ap (λ o. cons_option o (filter_map g xs)) (sym gives)
later_case false false test g x i is xs gives same below = below

later_end : {A B : Type 0} (after : Bool) (g : A → Option B) (x : A) (xs : List A) → g x ≡ None → filter_map g xs ≡ filter_map g (cond after (x ∷ xs) xs)
later_end true g x xs h = ap (λ o. cons_option o (filter_map g xs)) (sym h)
later_end false g x xs h = refl

later_stops : (s : Proposal) (key : PlainKey) (xs : List Stop) → filter (λ i. precedes key i.key) (all_given s xs) ≡ all_given s (filter (is_after key) xs)
later_stops s key [] = refl
later_stops s key (stop_at x ∷ xs) = later_case (is_violated s x) (precedes key x.key) (λ i. precedes key i.key) (given_at s) (stop_at x) x
    (all_given s xs) (filter (is_after key) xs) refl refl (later_stops s key xs)
later_stops s key (package_end n ∷ xs) = later_stops s key xs ∙ later_end (is_after key (package_end n)) (given_at s) (package_end n) (filter (is_after key) xs) refl

-- what is left after a position is what the stops ahead give
pub left-walk : (position : PlainPosition) (s : Proposal) → left_at position s ≡ all_given s (filter (is_ahead position) (walk s))
left-walk at_start s = listing-walk s ∙ ap (all_given s) (sym (all_kept (is_ahead at_start) (λ x. refl) (walk s)))
left-walk (at_key key) s = ap (filter (λ i. precedes key i.key)) (listing-walk s) ∙ later_stops s key (walk s)
left-walk at_end s = ap (all_given s) (sym (none_kept (is_ahead at_end) (λ x. refl) (walk s)))
