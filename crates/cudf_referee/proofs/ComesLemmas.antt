-- What is left after a stop that a search has come to.
use Rattle.std.proofs.Common.{◌≡◌, ℕ, true, List, [], ◌∷◌, ◌++◌, Option, Some, None, refl, ap, sym, ◌∙◌, append_assoc, ◌+◌, drop, map, length, subst, arith}
use Rattle.std.proofs.lemmas.List.{length-map}
use Rattle.std.proofs.lemmas.List.FromFn.{length-enumerate_from}
use Rattle.std.proofs.Math.ListN.{drop_of_length-le}
use Rattle.cudf_problem.specs.declared.package.Package.{Package}
use Rattle.cudf_problem.specs.Promises.Views.{package_view}
use Rattle.std.specs.Prelude.{slice_get}
use Rattle.std.specs.List.{enumerate_from}
use Rattle.cudf_problem.specs.Universe.{PlainPackage}
use Rattle.cudf_index.specs.Satisfaction.{Placed}
use Rattle.cudf_referee.specs.declared.left.PackageInstancesLeft.{PackageInstancesLeft}
use Rattle.cudf_referee.specs.Working.PackageInstancesLeft.{left_in, left_view}
use Rattle.cudf_referee.proofs.SearchLemmas.{packages-next}
use Rattle.cudf_problem.specs.Statuses.{PlainUnknown, ascend_above}
use Rattle.std.proofs.lemmas.Option.{slice_get_within, get_or_from_slice_get}
use Rattle.std.proofs.lemmas.List.{at_drop_more}
use Rattle.cudf_referee.specs.declared.referee.instances.Cursor.{Cursor}
use Rattle.cudf_referee.specs.Violations.{unknown_instance}
use Rattle.cudf_referee.specs.Instances.{PlainInstance}
use Rattle.cudf_referee.specs.Promises.Pages.{at_instance}
use Rattle.cudf_referee.specs.Promises.Stops.{Stop, stop_at, package_end, walk, PlainPosition, at_end, is_ahead}
use Rattle.cudf_referee.specs.Proposals.{Proposal}
use Rattle.cudf_referee.specs.Working.Places.{ahead}
use Rattle.cudf_referee.specs.Working.Searches.{Comes, ComesTo, first_given, package_left, package_rest, packages_rest, request_rest, unknown_rest, stops_from}
use Rattle.cudf_referee.proofs.ListLemmas.{none_kept}
use Rattle.cudf_referee.proofs.MoveLemmas.{ahead-left}

-- the rest is what follows some of them
pub record IsTail (all rest : List Stop) : Type 0 where
  pub before : List Stop
  pub is : all ≡ before ++ rest

unfoldable pub tail-start : (all : List Stop) → IsTail all all
tail-start all = record { before = []; is = refl }

unfoldable pub tail-on : (all rest : List Stop) (x : Stop) (more : List Stop) → rest ≡ x ∷ more → IsTail all rest → IsTail all more
tail-on all rest x more same tail = record { before = tail.before ++ x ∷ []; is = tail.is ∙ ap (λ l. tail.before ++ l) same ∙ sym (append_assoc tail.before (x ∷ []) more) }

unfoldable pub tail-past : (all rest xs ys : List Stop) → rest ≡ xs ++ ys → IsTail all rest → IsTail all ys
tail-past all rest xs ys same tail = record { before = tail.before ++ xs; is = tail.is ∙ ap (λ l. tail.before ++ l) same ∙ sym (append_assoc tail.before xs ys) }

unfoldable pub tail-comes : (all rest : List Stop) (i : PlainInstance) (more : List Stop) → rest ≡ stop_at i ∷ more → IsTail all rest → Comes all i more
tail-comes all rest i more same tail = record { before = tail.before; is = tail.is ∙ ap (λ l. tail.before ++ l) same }

unfoldable pub comes-in : (all xs ys : List Stop) (i : PlainInstance) (left : List Stop) → IsTail all (xs ++ ys) → Comes xs i left → Comes all i (left ++ ys)
comes-in all xs ys i left tail comes = record {
  before = tail.before ++ comes.before;
  is = tail.is ∙ ap (λ l. tail.before ++ (l ++ ys)) comes.is
      ∙ ap (λ l. tail.before ++ l) (append_assoc comes.before (stop_at i ∷ left) ys)
      ∙ sym (append_assoc tail.before comes.before (stop_at i ∷ (left ++ ys)));
}

-- of packages, where of the one that is gone through these left are left
unfoldable pub packages-comes : (s : Proposal) (all : List Stop) (k : Option PackageInstancesLeft) (j : ℕ) (p : PlainPackage) (q : Placed) (first later : PackageInstancesLeft) (i : PlainInstance)
    → slice_get s.problem.packages j ≡ Some p → q ≡ (j + 1, p) → left_view q first ≡ left_in s k q
    → IsTail all (packages_rest s k (drop j (enumerate_from 1 s.problem.packages))) → Comes (package_left q first) i (package_left q later)
    → Comes all i (packages_rest s (Some later) (drop j (enumerate_from 1 s.problem.packages)))
packages-comes s all k j p q first later i is of same tail comes =
    subst (λ (l : List Stop). Comes all i l) (sym (packages-next s (Some later) j p is))
    (comes-in all (package_rest s k (j + 1, p)) (packages_rest s None (drop (j + 1) (enumerate_from 1 s.problem.packages))) i (package_left (j + 1, p) later)
    (subst (λ (l : List Stop). IsTail all l) (packages-next s k j p is) tail)
    (subst (λ (l : List Stop). Comes l i (package_left (j + 1, p) later)) (ap (λ l. map stop_at l ++ package_end (j + 1) ∷ []) (subst (λ (r : Placed). left_view r first ≡ left_in s k r) of same))
    (subst (λ (r : Placed). Comes (package_left r first) i (package_left r later)) of comes)))

-- ---- the three parts of a walk

module _ (s : Proposal) (old new : Cursor) where
  abbrev P : Cursor → List Stop
  P c = packages_rest s c.begun (drop c.packages (enumerate_from 1 s.problem.packages))

  -- found in the packages
  pub in-packages : (i : PlainInstance) → new.request ≡ old.request → new.unknown ≡ old.unknown → Comes (P old) i (P new) → Comes (stops_from s old) i (stops_from s new)
  in-packages i same same' comes =
      subst (λ (l : List Stop). Comes (stops_from s old) i l) (λ k. P new ++ (request_rest s (sym same k) ++ unknown_rest s (sym same' k)))
      (comes-in (stops_from s old) (P old) (request_rest s old.request ++ unknown_rest s old.unknown) i (P new) (tail-start (stops_from s old)) comes)

  -- found in the request
  pub in-request : (i : PlainInstance) → P new ≡ [] → new.unknown ≡ old.unknown → Comes (request_rest s old.request) i (request_rest s new.request) → Comes (stops_from s old) i (stops_from s new)
  in-request i none same comes =
      subst (λ (l : List Stop). Comes (stops_from s old) i l) (λ k. sym none k ++ (request_rest s new.request ++ unknown_rest s (sym same k)))
      (comes-in (stops_from s old) (request_rest s old.request) (unknown_rest s old.unknown) i (request_rest s new.request) (record { before = P old; is = refl }) comes)

  -- found after both
  pub in-unknown : (i : PlainInstance) → P new ≡ [] → request_rest s new.request ≡ [] → Comes (unknown_rest s old.unknown) i (unknown_rest s new.unknown) → Comes (stops_from s old) i (stops_from s new)
  in-unknown i none none' comes =
      subst (λ (l : List Stop). Comes (stops_from s old) i l) (λ k. sym none k ++ (sym none' k ++ unknown_rest s new.unknown))
      (record {
        before = (P old ++ request_rest s old.request) ++ comes.before;
        is = sym (append_assoc (P old) (request_rest s old.request) (unknown_rest s old.unknown)) ∙ ap (λ l. (P old ++ request_rest s old.request) ++ l) comes.is
            ∙ sym (append_assoc (P old ++ request_rest s old.request) comes.before (stop_at i ∷ unknown_rest s new.unknown));
      })

  -- found after both, or nowhere
  pub in-last : (found : Option PlainInstance) → P new ≡ [] → request_rest s new.request ≡ [] → ComesTo (unknown_rest s old.unknown) found (unknown_rest s new.unknown) → ComesTo (stops_from s old) found (stops_from s new)
  in-last None none none' left = λ k. none k ++ (none' k ++ left k)
  in-last (Some i) none none' comes = in-unknown i none none' comes

-- after all packages none is left
pub packages-none : (s : Proposal) (ys : List Package) → map package_view ys ≡ s.problem.packages → packages_rest s None (drop (length ys) (enumerate_from 1 s.problem.packages)) ≡ []
packages-none s ys same = ap (packages_rest s None) (drop_of_length-le (enumerate_from 1 s.problem.packages) (omega (arith, length-enumerate_from 1 s.problem.packages, ap length same, length-map ys package_view)))

-- the next unknown stanza
pub comes-unknown : (s : Proposal) (n : ℕ) (u : PlainUnknown) (i : PlainInstance) → slice_get s.unknown n ≡ Some u → i ≡ unknown_instance u → Comes (unknown_rest s n) i (unknown_rest s (n + 1))
comes-unknown s n u i is same = record {
  before = [];
  is = at_drop_more (λ l. map stop_at (map unknown_instance l)) s.unknown n u (slice_get_within s.unknown n u is)
      ∙ ap (λ x. stop_at (unknown_instance x) ∷ unknown_rest s (n + 1)) (get_or_from_slice_get s.unknown n u u is)
      ∙ ap (λ (j : PlainInstance). stop_at j ∷ unknown_rest s (n + 1)) (sym same);
}

-- what is left is what is ahead of the instance
pub left-ahead : (s : Proposal) (old : PlainPosition) (found : Option PlainInstance) (left : List Stop) → ascend_above 0 s.unknown ≡ true
    → first_given s (ahead s old) ≡ found → ComesTo (ahead s old) found left → left ≡ ahead s (at_instance found)
left-ahead s old None left h first comes = comes ∙ sym (none_kept (is_ahead at_end) (λ x. refl) (walk s))
left-ahead s old (Some i) left h first comes = sym (ahead-left s old i comes.before (stop_at i) left h first comes.is refl)
