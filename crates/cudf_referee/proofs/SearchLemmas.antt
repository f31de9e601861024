-- Searches along the walk: one stop, one search after another, and a loop over instances or packages.
use Rattle.std.proofs.Common.{◌≡◌, ℕ, ◌+◌, ◌<◌, ◌≤◌, Bool, true, false, List, [], ◌∷◌, ◌++◌, length, map, drop, get_or, cond, Bor, Option, Some, None, refl, ap, sym, ◌∙◌, add_assoc, subst, arith}
use Rattle.std.specs.List.{All, flat_map, enumerate_from}
use Rattle.std.specs.Prelude.{option_map, slice_get}
use Rattle.std.specs.Slice.{IsItemAt}
use Rattle.std.specs.Iterator.{YieldsFirstBy}
use Rattle.std.proofs.lemmas.Bool.{ltb-true}
use Rattle.std.proofs.lemmas.Option.{slice_get-map, slice_get-get_or, slice_get_within, get_or_from_slice_get}
use Rattle.std.proofs.lemmas.List.{append-nil, at_drop_more, at_drop_all}
use Rattle.std.proofs.lemmas.List.FromFn.{length-enumerate_from}
use Rattle.cudf_problem.specs.declared.package.Package.{Package}
use Rattle.cudf_problem.specs.Promises.Views.{package_view}
use Rattle.cudf_problem.specs.Universe.{PlainPackage}
use Rattle.cudf_problem.specs.Statuses.{PlainUnknown}
use Rattle.cudf_index.specs.Satisfaction.{Placed}
use Rattle.cudf_referee.specs.declared.left.PackageInstancesLeft.{PackageInstancesLeft}
use Rattle.cudf_referee.specs.Instances.{PlainInstance}
use Rattle.cudf_referee.specs.Proposals.{Proposal}
use Rattle.cudf_referee.specs.Promises.Stops.{Stop, stop_at, package_stops, cost, look_ups, stop_cost, least_cost}
use Rattle.cudf_referee.specs.Promises.Walks.{Walking}
use Rattle.cudf_referee.specs.Violations.{is_violated, unknown_instance}
use Rattle.cudf_referee.specs.Working.Judged.{given_at}
use Rattle.cudf_referee.specs.Working.Searches.{Searches, Goes, first_given, sum_to_first, cost_to_first, least_to_first, or_later, unless_found, package_rest, packages_rest, unknown_rest}
use Rattle.cudf_referee.proofs.GroundLemmas.{packages-from}

-- ---- several stops

pub or_later-none : (found : Option PlainInstance) → or_later found None ≡ found
or_later-none None = refl
or_later-none (Some i) = refl

pub unless_found-zero : (found : Option PlainInstance) → unless_found found 0 ≡ 0
unless_found-zero None = refl
unless_found-zero (Some i) = refl

or_later-append : (a b c : Option PlainInstance) → or_later a (or_later b c) ≡ or_later (or_later a b) c
or_later-append None b c = refl
or_later-append (Some i) b c = refl

unless_found-append : (a b : Option PlainInstance) (m n : ℕ) → unless_found a (m + unless_found b n) ≡ unless_found a m + unless_found (or_later a b) n
unless_found-append None b m n = refl
unless_found-append (Some i) b m n = refl

pub first_given-append : (s : Proposal) (xs ys : List Stop) → first_given s (xs ++ ys) ≡ or_later (first_given s xs) (first_given s ys)
first_given-append s [] ys = refl
first_given-append s (x ∷ xs) ys = ap (or_later (given_at s x)) (first_given-append s xs ys) ∙ or_later-append (given_at s x) (first_given s xs) (first_given s ys)

sum-append : (number : Stop → ℕ) (s : Proposal) (xs ys : List Stop)
    → sum_to_first number s (xs ++ ys) ≡ sum_to_first number s xs + unless_found (first_given s xs) (sum_to_first number s ys)
sum-append number s [] ys = omega arith
sum-append number s (x ∷ xs) ys =
    ap (λ n. number x + unless_found (given_at s x) n) (sum-append number s xs ys)
    ∙ ap (λ n. number x + n) (unless_found-append (given_at s x) (first_given s xs) (sum_to_first number s xs) (sum_to_first number s ys))
    ∙ sym (add_assoc (number x) (unless_found (given_at s x) (sum_to_first number s xs)) (unless_found (or_later (given_at s x) (first_given s xs)) (sum_to_first number s ys)))

cost-append : (s : Proposal) (xs ys : List Stop) → cost_to_first s (xs ++ ys) ≡ cost_to_first s xs + unless_found (first_given s xs) (cost_to_first s ys)
cost-append s xs ys = sum-append (stop_cost s.proposed) s xs ys

least-append : (s : Proposal) (xs ys : List Stop) → least_to_first s (xs ++ ys) ≡ least_to_first s xs + unless_found (first_given s xs) (least_to_first s ys)
least-append s xs ys = sum-append (least_cost s.proposed) s xs ys

-- ---- a walk goes on

pub goes-start : (old : Walking) (all : List Stop) → Goes old all None all old
goes-start old all = record { judged = refl; position = refl; given = refl; price = omega arith; grows = omega arith }

-- after stops that gave nothing others are searched, with what is judged from the start
goes-by : (old now new : Walking) (all xs left : List Stop) (found : Option PlainInstance)
    → Goes old all None (xs ++ left) now → Searches (record now { judged = old.judged }) xs found new → Goes old all found left new
goes-by old now new all xs left found goes searches =
    let s = old.judged in
    let first : first_given s xs ≡ found = searches.given ∙ or_later-none found in
    record {
      judged = searches.judged;
      position = searches.position ∙ goes.position;
      given = goes.given ∙ first_given-append s xs left ∙ ap (λ o. or_later o (first_given s left)) first;
      price = omega (arith, goes.price, searches.price, unless_found-zero found, cost-append s xs left, ap (λ o. unless_found o (cost_to_first s left)) first);
      grows = omega (arith, goes.grows, searches.grows, unless_found-zero found, least-append s xs left, ap (λ o. unless_found o (least_to_first s left)) first);
    }

goes-on : (old now new : Walking) (all rest xs left : List Stop) (found : Option PlainInstance) → rest ≡ xs ++ left
    → Goes old all None rest now → Searches now xs found new → Goes old all found left new
goes-on old now new all rest xs left found same goes searches =
    goes-by old now new all xs left found (subst (λ (l : List Stop). Goes old all None l now) same goes)
    (subst (λ (s : Proposal). Searches (record now { judged = s }) xs found new) goes.judged searches)

-- what is found is found, whatever was left
pub goes-found : {old new : Walking} {all left : List Stop} {i : PlainInstance} → Goes old all (Some i) left new → Searches old all (Some i) new
goes-found goes = record { judged = goes.judged; position = goes.position; given = goes.given; price = goes.price; grows = goes.grows }

pub goes-at : (old now : Walking) (all left left' : List Stop) → left ≡ left' → Goes old all None left now → Goes old all None left' now
goes-at old now all left left' same goes = subst (λ (l : List Stop). Goes old all None l now) same goes

pub searches-at : (old new : Walking) (stops stops' : List Stop) (found found' : Option PlainInstance) → stops ≡ stops' → found ≡ found' → Searches old stops found new → Searches old stops' found' new
searches-at old new stops stops' found found' same same' searches =
    subst (λ (l : List Stop). Searches old l found' new) same (subst (λ (o : Option PlainInstance). Searches old stops o new) same' searches)

-- a part of the stops, as they are of what is judged, and the last part
pub part-on : (old now new : Walking) (all left : List Stop) (F : Proposal → List Stop) (found : Option PlainInstance)
    → Goes old all None (F old.judged ++ left) now → Searches now (F now.judged) found new → Goes old all found left new
part-on old now new all left F found goes searches = goes-on old now new all _ (F now.judged) left found (ap (λ s. F s ++ left) (sym goes.judged)) goes searches

pub part-last : (old now new : Walking) (all : List Stop) (F : Proposal → List Stop) (found : Option PlainInstance) → Goes old all None (F old.judged) now → Searches now (F now.judged) found new → Searches old all found new
part-last old now new all F found goes searches =
    goes-on old now new all _ (F now.judged) [] found (ap F (sym goes.judged) ∙ sym (append-nil (F now.judged))) goes searches

-- a search of what is seen as this
pub searches-same : (a b new : Walking) (F : Proposal → List Stop) (found : Option PlainInstance) → a ≡ b → Searches a (F a.judged) found new → Searches b (F b.judged) found new
searches-same a b new F found same searches = subst (λ (w : Walking). Searches w (F w.judged) found new) same searches

-- an instance that is judged
pub judged-stop : (old new : Walking) (i : PlainInstance) (answer : Bool) → new.judged ≡ old.judged → new.position ≡ old.position → answer ≡ is_violated old.judged i
    → new.steps ≤ old.steps + 1 + cost old.judged.proposed i → old.steps + 1 + look_ups old.judged.proposed i ≤ new.steps → Searches old (stop_at i ∷ []) (cond answer (Some i) None) new
judged-stop old new i answer judged position is price grows = record {
  judged = judged;
  position = position;
  given = ap (λ b. or_later (cond b (Some i) None) None) (sym is);
  price = omega (arith, price, unless_found-zero (cond answer (Some i) None), unless_found-zero (given_at old.judged (stop_at i)));
  grows = omega (arith, grows, unless_found-zero (cond answer (Some i) None), unless_found-zero (given_at old.judged (stop_at i)));
}

-- ---- a loop over instances

module _ (old now new : Walking) (all : List Stop) (F : List PlainInstance → List Stop) (adds : (y : PlainInstance) (ys : List PlainInstance) → F (y ∷ ys) ≡ stop_at y ∷ F ys)
    (xs : List PlainInstance) (x : PlainInstance) (ys : List PlainInstance) (is : xs ≡ x ∷ ys) (answer : Bool) where
  abbrev given-if : Bool → Option PlainInstance
  given-if b = cond b (Some x) None

  next-instance : F xs ≡ stop_at x ∷ F ys
  next-instance = ap F is ∙ adds x ys

  instance-on : (b : Bool) → answer ≡ b → Searches now (stop_at x ∷ []) (given-if answer) new → Goes old all None (F xs) now → Goes old all (given-if b) (F ys) new
  instance-on b same searches goes =
      goes-on old now new all _ (stop_at x ∷ []) (F ys) (given-if b) next-instance goes (subst (λ (c : Bool). Searches now (stop_at x ∷ []) (given-if c) new) same searches)

  pub instances-more : answer ≡ false → Searches now (stop_at x ∷ []) (given-if answer) new → Goes old all None (F xs) now → Goes old all None (F ys) new
  instances-more is_not searches goes = instance-on false is_not searches goes

  pub instances-found : answer ≡ true → Searches now (stop_at x ∷ []) (given-if answer) new → Goes old all None (F xs) now → Searches old all (Some x) new
  instances-found is_so searches goes = goes-found (instance-on true is_so searches goes)

pub instances-end : (old now : Walking) (all : List Stop) (F : List PlainInstance → List Stop) (xs : List PlainInstance) → xs ≡ [] → Goes old all None (F xs) now → Goes old all None (F []) now
instances-end old now all F xs end goes = goes-at old now all _ _ (ap F end) goes

-- nothing came, so nothing was left
pub nothing-next : {A B S : Type 0} (view : A → B) (left : S → List B) (old new : S) (found : Option A) → found ≡ None → YieldsFirstBy view left old found new → left old ≡ []
nothing-next view left old new None is gives = gives.0
nothing-next view left old new (Some x) is gives = absurd (cc is)

pub nothing-left : {A B S : Type 0} (view : A → B) (left : S → List B) (old new : S) (found : Option A) → found ≡ None → YieldsFirstBy view left old found new → left new ≡ []
nothing-left view left old new None is gives = gives.1
nothing-left view left old new (Some x) is gives = absurd (cc is)

-- ---- a loop over packages

pub rest-whole : (s : Proposal) (ps : List Placed) → packages_rest s None ps ≡ flat_map (package_stops s) ps
rest-whole s [] = refl
rest-whole s (p ∷ ps) = refl

pub packages-next : (s : Proposal) (k : Option PackageInstancesLeft) (i : ℕ) (p : PlainPackage) → slice_get s.problem.packages i ≡ Some p
    → packages_rest s k (drop i (enumerate_from 1 s.problem.packages)) ≡ package_rest s k (i + 1, p) ++ packages_rest s None (drop (i + 1) (enumerate_from 1 s.problem.packages))
packages-next s k i p is =
    ap (packages_rest s k) (packages-from s.problem.packages i p is)
    ∙ ap (λ xs. package_rest s k (i + 1, p) ++ xs) (sym (rest-whole s (drop (i + 1) (enumerate_from 1 s.problem.packages))))

pub packages-on : (old now new : Walking) (all : List Stop) (k : Option PackageInstancesLeft) (i : ℕ) (p : PlainPackage) (found : Option PlainInstance) → slice_get now.judged.problem.packages i ≡ Some p
    → Goes old all None (packages_rest old.judged k (drop i (enumerate_from 1 old.judged.problem.packages))) now
    → Searches now (package_rest now.judged k (i + 1, p)) found new → Goes old all found (packages_rest old.judged None (drop (i + 1) (enumerate_from 1 old.judged.problem.packages))) new
packages-on old now new all k i p found is goes searches =
    part-on old now new all _ (λ s. package_rest s k (i + 1, p)) found
    (goes-at old now all _ _ (packages-next old.judged k i p ((λ j. slice_get (sym goes.judged j).problem.packages i) ∙ is)) goes) searches

pub packages-end : (old now : Walking) (all : List Stop) (k : Option PackageInstancesLeft) (i : ℕ) → length old.judged.problem.packages ≤ i
    → Goes old all None (packages_rest old.judged k (drop i (enumerate_from 1 old.judged.problem.packages))) now → Searches old all None now
packages-end old now all k i end goes =
    goes-at old now all _ _ (at_drop_all (packages_rest old.judged k) (enumerate_from 1 old.judged.problem.packages) i (omega (arith, length-enumerate_from 1 old.judged.problem.packages))) goes

-- the package at an index of those that are judged
pub package-here : (s t : Proposal) (ys : List Package) (i : ℕ) (y : Package) → map package_view ys ≡ s.problem.packages → t ≡ s → i < length ys → y ≡ get_or ys i y
    → slice_get t.problem.packages i ≡ Some (package_view y)
package-here s t ys i y same same' below is =
    (λ j. slice_get (same' j).problem.packages i) ∙ ap (λ ps. slice_get ps i) (sym same)
    ∙ slice_get-map package_view ys i ∙ ap (option_map package_view) (slice_get-get_or ys i y below ∙ ap Some (sym is))

-- ---- one element of a list

pub item-some : {A : Type 0} (xs : List A) (i : ℕ) (item : Bor A) → IsItemAt xs i (Some item) → slice_get xs i ≡ Some item.now
item-some xs i item is = slice_get-get_or xs i item.now (ltb-true i (length xs) (sym is.0)) ∙ ap Some (sym is.1)

pub item-none : {A : Type 0} (xs : List A) (i : ℕ) → IsItemAt xs i None → length xs ≤ i
item-none xs i is = is.3

pub the-same : {A : Type 0} (x y : A) → Some x ≡ Some y → x ≡ y
the-same x y is = cc

pub seen-item : {A B : Type 0} (view : B → A) (xs : List B) (i : ℕ) (x : B) → slice_get xs i ≡ Some x → slice_get (map view xs) i ≡ Some (view x)
seen-item view xs i x is = slice_get-map view xs i ∙ ap (option_map view) is

pub all-at : {A : Type 0} (P : A → Type 0) (xs : List A) (i : ℕ) (x : A) → slice_get xs i ≡ Some x → All P xs → P x
all-at P xs i x is all = subst P (get_or_from_slice_get xs i x x is) (all i x (slice_get_within xs i x is))

-- the next unknown stanza, which is always violated
pub unknown-found : (old new : Walking) (n : ℕ) (u : PlainUnknown) (i : PlainInstance) → new.judged ≡ old.judged → new.position ≡ old.position
    → slice_get old.judged.unknown n ≡ Some u → i ≡ unknown_instance u → new.steps ≡ old.steps + 1 → Searches old (unknown_rest old.judged n) (Some i) new
unknown-found old new n u i judged position is same price =
    let s = old.judged in
    let cost : cost_to_first s (unknown_rest s n) ≡ 1 = ap (cost_to_first s) next in
    let least : least_to_first s (unknown_rest s n) ≡ 1 = ap (least_to_first s) next in
    record {
      judged = judged;
      position = position;
      given = ap (first_given s) next ∙ ap Some (sym same);
      price = omega (arith, price, cost);
      grows = omega (arith, price, least);
    }
  where
    next : unknown_rest old.judged n ≡ stop_at (unknown_instance u) ∷ unknown_rest old.judged (n + 1)
    next = at_drop_more (λ l. map stop_at (map unknown_instance l)) old.judged.unknown n u (slice_get_within old.judged.unknown n u is)
        ∙ ap (λ x. stop_at (unknown_instance x) ∷ unknown_rest old.judged (n + 1)) (get_or_from_slice_get old.judged.unknown n u u is)
