-- The stops of the walk ascend, and so do the keys of the listing.
use Rattle.std.proofs.Common.{◌≡◌, ℕ, ◌+◌, ◌<◌, Bool, true, false, ◌&&◌, nat_lt, List, [], ◌∷◌, ◌++◌, map, filter, cond, arith, refl, ap, sym, ◌∙◌, subst}
use Rattle.std.proofs.lemmas.Bool.{ltb-true}
use Rattle.std.proofs.lemmas.Cmp.{nat_cmp_total, nat_list_cmp_total, tied_itself}
use Rattle.std.specs.Cmp.{nat_cmp_is}
use Rattle.std.specs.Cmp.Lexicographic.{slice_cmp}
use Rattle.std.specs.List.{flat_map, enumerate_from}
use Rattle.std.specs.Ordering.{nat_cmp, ordering_then, is_lt}
use Rattle.std.specs.declared.cmp.Ordering.TheVariants.{Less}
use Rattle.cudf_value.specs.Vpkgs.{PlainVpkg}
use Rattle.cudf_problem.specs.declared.package.Keep.{Keep}
use Rattle.cudf_problem.specs.declared.package.Keep.TheVariants.{Feature, Nothing}
use Rattle.cudf_problem.specs.Universe.{PlainPackage, PlainProblem, PlainRequest}
use Rattle.cudf_problem.specs.Statuses.{PlainUnknown, ascend_above}
use Rattle.cudf_index.specs.Satisfaction.{Placed}
use Rattle.cudf_referee.specs.Instances.{keep_feature, PlainInstance}
use Rattle.cudf_job.specs.Keys.{PlainKey, key_ranks, ascend}
use Rattle.cudf_job.specs.Working.Keys.{precedes_all}
use Rattle.cudf_referee.specs.Proposals.{Proposal, everything, holds_place}
use Rattle.cudf_referee.specs.Violations.{unknown_instance, needed_instances, kept_instances, package_instances, entry_instances, request_instances, instances, problem_instances, is_violated, listing}
use Rattle.cudf_referee.specs.Working.RuleInstances.{depends_instance, conflicts_instance, keep_instance, install_instance, remove_instance}
use Rattle.cudf_referee.specs.Promises.Stops.{stop_at, package_end, package_stops, walk}
use Rattle.cudf_referee.proofs.ListLemmas.{and_left, and_right}
use Rattle.cudf_referee.proofs.PositionLemmas.{stop_ranks}

-- ---- ranks

-- a list of ranks comes before another: a list comes before those that go on from it
abbrev pub Below : List ℕ → List ℕ → Type 0
Below xs ys = slice_cmp nat_cmp xs ys ≡ Less

pub same_first : (n : ℕ) (xs ys : List ℕ) → Below xs ys → Below (n ∷ xs) (n ∷ ys)
same_first n xs ys h = ap (λ o. ordering_then o (slice_cmp nat_cmp xs ys)) (tied_itself nat_cmp_total n) ∙ h

pub less_first : (m n : ℕ) (xs ys : List ℕ) → m < n → Below (m ∷ xs) (n ∷ ys)
less_first m n xs ys h = ap (λ o. ordering_then o (slice_cmp nat_cmp xs ys)) (sym (nat_cmp_is m n Less h))

next_first : (n : ℕ) (xs ys : List ℕ) → Below (n ∷ xs) ((n + 1) ∷ ys)
next_first n xs ys = less_first n (n + 1) xs ys (omega arith)

pub chained : (a b c : List ℕ) → Below a b → Below b c → Below a c
chained a b c = nat_list_cmp_total.trans a b c

-- ---- lists that climb

-- the ranks of the elements ascend step by step, from above the one bound to below the other
abbrev pub Climbs : {A : Type 0} → (A → List ℕ) → List ℕ → List A → List ℕ → Type 0
Climbs ranks low [] high = Below low high
Climbs ranks low (x ∷ xs) high = Below low (ranks x) × Climbs ranks (ranks x) xs high

pub from_lower : {A : Type 0} (ranks : A → List ℕ) (a b c : List ℕ) (xs : List A) → Below a b → Climbs ranks b xs c → Climbs ranks a xs c
from_lower ranks a b c [] h k = chained a b c h k
from_lower ranks a b c (x ∷ xs) h k = (chained a b (ranks x) h k.0, k.1)

pub to_higher : {A : Type 0} (ranks : A → List ℕ) (a b c : List ℕ) (xs : List A) → Climbs ranks a xs b → Below b c → Climbs ranks a xs c
to_higher ranks a b c [] h k = chained a b c h k
to_higher ranks a b c (x ∷ xs) h k = (h.0, to_higher ranks (ranks x) b c xs h.1 k)

-- from the one bound to the other
pub climbs-over : {A : Type 0} (ranks : A → List ℕ) (low : List ℕ) (xs : List A) (high : List ℕ) → Climbs ranks low xs high → Below low high
climbs-over ranks low [] high h = h
climbs-over ranks low (x ∷ xs) high h = chained low (ranks x) high h.0 (climbs-over ranks (ranks x) xs high h.1)

pub climbs-append : {A : Type 0} (ranks : A → List ℕ) (a b c : List ℕ) (xs ys : List A) → Climbs ranks a xs b → Climbs ranks b ys c → Climbs ranks a (xs ++ ys) c
climbs-append ranks a b c [] ys h k = from_lower ranks a b c ys h k
climbs-append ranks a b c (x ∷ xs) ys h k = (h.0, climbs-append ranks (ranks x) b c xs ys h.1 k)

climbs-if : {A : Type 0} (ranks : A → List ℕ) (a b : List ℕ) (test : Bool) (xs : List A) → Below a b → Climbs ranks a xs b → Climbs ranks a (cond test xs []) b
climbs-if ranks a b true xs h k = k
climbs-if ranks a b false xs h k = h

pub climbs-map : {A B : Type 0} (ranks : B → List ℕ) (f : A → B) (low : List ℕ) (xs : List A) (high : List ℕ) → Climbs (λ x. ranks (f x)) low xs high → Climbs ranks low (map f xs) high
climbs-map ranks f low [] high h = h
climbs-map ranks f low (x ∷ xs) high h = (h.0, climbs-map ranks f (ranks (f x)) xs high h.1)

kept_one : {A : Type 0} (ranks : A → List ℕ) (low : List ℕ) (test : Bool) (x : A) (xs : List A) (high : List ℕ) → Below low (ranks x) → Climbs ranks (ranks x) xs high → Climbs ranks low (cond test (x ∷ xs) xs) high
kept_one ranks low true x xs high h k = (h, k)
kept_one ranks low false x xs high h k = from_lower ranks low (ranks x) high xs h k

-- what is kept of a list that climbs does
pub climbs-filter : {A : Type 0} (ranks : A → List ℕ) (test : A → Bool) (low : List ℕ) (xs : List A) (high : List ℕ) → Climbs ranks low xs high → Climbs ranks low (filter test xs) high
climbs-filter ranks test low [] high h = h
climbs-filter ranks test low (x ∷ xs) high h = kept_one ranks low (test x) x (filter test xs) high h.0 (climbs-filter ranks test (ranks x) xs high h.1)

-- what each numbered element gives lies from its number's bound to the next one's
climbs-flat_map : {A B : Type 0} (ranks : B → List ℕ) (f : ℕ × A → List B) (bound : ℕ → List ℕ) (high : List ℕ)
    → ((x : ℕ × A) → Climbs ranks (bound x.0) (f x) (bound (x.0 + 1))) → ((n : ℕ) → Below (bound n) high)
    → (n : ℕ) (xs : List A) → Climbs ranks (bound n) (flat_map f (enumerate_from n xs)) high
climbs-flat_map ranks f bound high step top n [] = top n
climbs-flat_map ranks f bound high step top n (x ∷ xs) =
    climbs-append ranks (bound n) (bound (n + 1)) high (f (n, x)) (flat_map f (enumerate_from (n + 1) xs)) (step (n, x)) (climbs-flat_map ranks f bound high step top (n + 1) xs)

-- ---- instances

abbrev pub instance_ranks : PlainInstance → List ℕ
instance_ranks i = key_ranks i.key

-- the instances of a rule without aspects, by the ranks of its part and its own
climbs-rule : {A : Type 0} (make : ℕ × A → PlainInstance) (part place rule : ℕ)
    → ((x : ℕ × A) → instance_ranks (make x) ≡ (part ∷ place ∷ rule ∷ x.0 ∷ 0 ∷ []))
    → (xs : List A) → Climbs instance_ranks (part ∷ place ∷ rule ∷ []) (map make (enumerate_from 1 xs)) (part ∷ place ∷ (rule + 1) ∷ [])
climbs-rule {A = A} make part place rule ranks xs =
    from_lower instance_ranks (part ∷ place ∷ rule ∷ []) (bound 1) high (map make (enumerate_from 1 xs)) (of_rule [] (1 ∷ []) refl) (from 1 xs)
  where
    bound : ℕ → List ℕ
    bound n = part ∷ place ∷ rule ∷ n ∷ []

    high : List ℕ
    high = part ∷ place ∷ (rule + 1) ∷ []

    within : (ms ns : List ℕ) → Below ms ns → Below (part ∷ place ∷ ms) (part ∷ place ∷ ns)
    within ms ns h = same_first part (place ∷ ms) (place ∷ ns) (same_first place ms ns h)

    of_rule : (ms ns : List ℕ) → Below ms ns → Below (part ∷ place ∷ rule ∷ ms) (part ∷ place ∷ rule ∷ ns)
    of_rule ms ns h = within (rule ∷ ms) (rule ∷ ns) (same_first rule ms ns h)

    above : (x : ℕ × A) → Below (bound x.0) (instance_ranks (make x))
    above x = subst (λ r. Below (bound x.0) r) (sym (ranks x)) (of_rule (x.0 ∷ []) (x.0 ∷ 0 ∷ []) (same_first x.0 [] (0 ∷ []) refl))

    below : (x : ℕ × A) → Below (instance_ranks (make x)) (bound (x.0 + 1))
    below x = subst (λ r. Below r (bound (x.0 + 1))) (sym (ranks x)) (of_rule (x.0 ∷ 0 ∷ []) ((x.0 + 1) ∷ []) (next_first x.0 (0 ∷ []) []))

    from : (n : ℕ) (xs : List A) → Climbs instance_ranks (bound n) (map make (enumerate_from n xs)) high
    from n [] = within (rule ∷ n ∷ []) ((rule + 1) ∷ []) (next_first rule (n ∷ []) [])
    from n (x ∷ xs) = (
      above (n, x),
      from_lower instance_ranks (instance_ranks (make (n, x))) (bound (n + 1)) high (map make (enumerate_from (n + 1) xs)) (below (n, x)) (from (n + 1) xs),
    )

-- ---- packages

kept_climb : (k : Keep) (p : Placed) → Climbs instance_ranks (1 ∷ p.0 ∷ 3 ∷ []) (kept_instances k p) (1 ∷ p.0 ∷ 4 ∷ [])
kept_climb Feature p = climbs-rule (λ v. keep_instance p v.0 (keep_feature v.1)) 1 p.0 3 (λ x. refl) p.1.provides
kept_climb Nothing p = same_first p.0 (3 ∷ []) (4 ∷ []) refl
kept_climb once p = (same_first p.0 (3 ∷ []) (3 ∷ 1 ∷ 0 ∷ []) refl, same_first p.0 (3 ∷ 1 ∷ 0 ∷ []) (4 ∷ []) refl)

pub instances_climb : (s : Proposal) (p : Placed) → Climbs instance_ranks (1 ∷ p.0 ∷ []) (package_instances s p) (1 ∷ p.0 ∷ 4 ∷ [])
instances_climb s p =
    from_lower instance_ranks (1 ∷ p.0 ∷ []) (1 ∷ p.0 ∷ 1 ∷ []) (1 ∷ p.0 ∷ 4 ∷ []) (package_instances s p) (same_first p.0 [] (1 ∷ []) refl)
    (climbs-append instance_ranks (1 ∷ p.0 ∷ 1 ∷ []) (1 ∷ p.0 ∷ 3 ∷ []) (1 ∷ p.0 ∷ 4 ∷ [])
    (cond (holds_place s.proposed p.0) (needed_instances p) []) (cond (holds_place s.initial p.0) (kept_instances p.1.keep p) [])
    (climbs-if instance_ranks (1 ∷ p.0 ∷ 1 ∷ []) (1 ∷ p.0 ∷ 3 ∷ []) (holds_place s.proposed p.0) (needed_instances p) (same_first p.0 (1 ∷ []) (3 ∷ []) refl) needed)
    (climbs-if instance_ranks (1 ∷ p.0 ∷ 3 ∷ []) (1 ∷ p.0 ∷ 4 ∷ []) (holds_place s.initial p.0) (kept_instances p.1.keep p) (same_first p.0 (3 ∷ []) (4 ∷ []) refl) (kept_climb p.1.keep p)))
  where
    depends : List PlainInstance
    depends = map (λ c. depends_instance p c.0 c.1) (enumerate_from 1 p.1.depends)

    conflicts : List PlainInstance
    conflicts = map (λ v. conflicts_instance p v.0 v.1) (enumerate_from 1 p.1.conflicts)

    needed : Climbs instance_ranks (1 ∷ p.0 ∷ 1 ∷ []) (needed_instances p) (1 ∷ p.0 ∷ 3 ∷ [])
    needed = climbs-append instance_ranks (1 ∷ p.0 ∷ 1 ∷ []) (1 ∷ p.0 ∷ 2 ∷ []) (1 ∷ p.0 ∷ 3 ∷ []) depends conflicts
        (climbs-rule (λ c. depends_instance p c.0 c.1) 1 p.0 1 (λ x. refl) p.1.depends)
        (climbs-rule (λ v. conflicts_instance p v.0 v.1) 1 p.0 2 (λ x. refl) p.1.conflicts)

pub package_climbs : (s : Proposal) (p : Placed) → Climbs stop_ranks (1 ∷ p.0 ∷ []) (package_stops s p) (1 ∷ p.0 ∷ 9 ∷ [])
package_climbs s p =
    climbs-append stop_ranks (1 ∷ p.0 ∷ []) (1 ∷ p.0 ∷ 4 ∷ []) (1 ∷ p.0 ∷ 9 ∷ []) (map stop_at (package_instances s p)) (package_end p.0 ∷ [])
    (climbs-map stop_ranks stop_at (1 ∷ p.0 ∷ []) (package_instances s p) (1 ∷ p.0 ∷ 4 ∷ []) (instances_climb s p))
    (same_first p.0 (4 ∷ []) (8 ∷ []) refl, same_first p.0 (8 ∷ []) (9 ∷ []) refl)

pub packages_climb : (s : Proposal) (n : ℕ) (packages : List PlainPackage) → Climbs stop_ranks (1 ∷ n ∷ []) (flat_map (package_stops s) (enumerate_from n packages)) (2 ∷ [])
packages_climb s n packages =
    climbs-flat_map stop_ranks (package_stops s) (λ m. 1 ∷ m ∷ []) (2 ∷ [])
    (λ p. to_higher stop_ranks (1 ∷ p.0 ∷ []) (1 ∷ p.0 ∷ 9 ∷ []) (1 ∷ (p.0 + 1) ∷ []) (package_stops s p) (package_climbs s p) (next_first p.0 (9 ∷ []) []))
    (λ m. refl) n packages

-- ---- the request

pub entry_climbs : (r : PlainRequest) (v : ℕ × PlainVpkg) → Climbs instance_ranks (2 ∷ 0 ∷ 6 ∷ v.0 ∷ []) (entry_instances r v) (2 ∷ 0 ∷ 6 ∷ (v.0 + 1) ∷ [])
entry_climbs r v = (same_first v.0 [] (1 ∷ []) refl, (same_first v.0 (1 ∷ []) (2 ∷ []) refl, (same_first v.0 (2 ∷ []) (3 ∷ []) refl, next_first v.0 (3 ∷ []) [])))

pub entries_climb : (r : PlainRequest) (n : ℕ) (vs : List PlainVpkg) → Climbs instance_ranks (2 ∷ 0 ∷ 6 ∷ n ∷ []) (flat_map (entry_instances r) (enumerate_from n vs)) (3 ∷ [])
entries_climb r n vs = climbs-flat_map instance_ranks (entry_instances r) (λ m. 2 ∷ 0 ∷ 6 ∷ m ∷ []) (3 ∷ []) (entry_climbs r) (λ m. refl) n vs

pub request_climbs : (r : PlainRequest) → Climbs instance_ranks (2 ∷ []) (request_instances r) (3 ∷ [])
request_climbs r =
    from_lower instance_ranks (2 ∷ []) (2 ∷ 0 ∷ 4 ∷ []) (3 ∷ []) (request_instances r) refl
    (climbs-append instance_ranks (2 ∷ 0 ∷ 4 ∷ []) (2 ∷ 0 ∷ 6 ∷ []) (3 ∷ []) (wanted ++ unwanted) (flat_map (entry_instances r) (enumerate_from 1 r.upgrade))
    (climbs-append instance_ranks (2 ∷ 0 ∷ 4 ∷ []) (2 ∷ 0 ∷ 5 ∷ []) (2 ∷ 0 ∷ 6 ∷ []) wanted unwanted
    (climbs-rule (λ v. install_instance r v.0 v.1) 2 0 4 (λ x. refl) r.install)
    (climbs-rule (λ v. remove_instance r v.0 v.1) 2 0 5 (λ x. refl) r.remove))
    (from_lower instance_ranks (2 ∷ 0 ∷ 6 ∷ []) (2 ∷ 0 ∷ 6 ∷ 1 ∷ []) (3 ∷ []) (flat_map (entry_instances r) (enumerate_from 1 r.upgrade)) refl (entries_climb r 1 r.upgrade)))
  where
    wanted : List PlainInstance
    wanted = map (λ v. install_instance r v.0 v.1) (enumerate_from 1 r.install)

    unwanted : List PlainInstance
    unwanted = map (λ v. remove_instance r v.0 v.1) (enumerate_from 1 r.remove)

-- ---- the solution

unknown_climbs : (n : ℕ) (unknown : List PlainUnknown) → ascend_above n unknown ≡ true → Climbs instance_ranks (3 ∷ 0 ∷ 7 ∷ n ∷ 0 ∷ []) (map unknown_instance unknown) (4 ∷ [])
unknown_climbs n [] h = refl
unknown_climbs n (u ∷ unknown) h = (
  less_first n u.stanza (0 ∷ []) (0 ∷ []) (ltb-true n u.stanza (and_left (nat_lt n u.stanza) (ascend_above u.stanza unknown) h)),
  unknown_climbs u.stanza unknown (and_right (nat_lt n u.stanza) (ascend_above u.stanza unknown) h),
)

unknowns_climb : (unknown : List PlainUnknown) → ascend_above 0 unknown ≡ true → Climbs instance_ranks (3 ∷ []) (map unknown_instance unknown) (4 ∷ [])
unknowns_climb unknown h = from_lower instance_ranks (3 ∷ []) (3 ∷ 0 ∷ 7 ∷ 0 ∷ 0 ∷ []) (4 ∷ []) (map unknown_instance unknown) refl (unknown_climbs 0 unknown h)

-- ---- the walk

-- the stops ascend, where the numbers of the unknown stanzas do
pub walk-climbs : (s : Proposal) → ascend_above 0 s.unknown ≡ true → Climbs stop_ranks [] (walk s) (4 ∷ [])
unfolding walk
walk-climbs s h =
    from_lower stop_ranks [] (1 ∷ 1 ∷ []) (4 ∷ []) (flat_map (package_stops s) packages ++ map stop_at others) refl
    (climbs-append stop_ranks (1 ∷ 1 ∷ []) (2 ∷ []) (4 ∷ []) (flat_map (package_stops s) packages) (map stop_at others)
    (packages_climb s 1 s.problem.packages)
    (climbs-map stop_ranks stop_at (2 ∷ []) others (4 ∷ [])
    (climbs-append instance_ranks (2 ∷ []) (3 ∷ []) (4 ∷ []) (request_instances s.problem.request) (map unknown_instance s.unknown) (request_climbs s.problem.request) (unknowns_climb s.unknown h))))
  where
    packages : List Placed
    packages = enumerate_from 1 s.problem.packages

    others : List PlainInstance
    others = request_instances s.problem.request ++ map unknown_instance s.unknown

-- ---- all instances

pub own_climb : (s : Proposal) (n : ℕ) (packages : List PlainPackage) → Climbs instance_ranks (1 ∷ n ∷ []) (flat_map (package_instances s) (enumerate_from n packages)) (2 ∷ [])
own_climb s n packages =
    climbs-flat_map instance_ranks (package_instances s) (λ m. 1 ∷ m ∷ []) (2 ∷ [])
    (λ p. to_higher instance_ranks (1 ∷ p.0 ∷ []) (1 ∷ p.0 ∷ 4 ∷ []) (1 ∷ (p.0 + 1) ∷ []) (package_instances s p) (instances_climb s p) (next_first p.0 (4 ∷ []) []))
    (λ m. refl) n packages

-- they ascend, where the numbers of the unknown stanzas do
pub all_climb : (s : Proposal) → ascend_above 0 s.unknown ≡ true → Climbs instance_ranks [] (instances s) (4 ∷ [])
all_climb s h =
    from_lower instance_ranks [] (1 ∷ 1 ∷ []) (4 ∷ []) (instances s) refl
    (climbs-append instance_ranks (1 ∷ 1 ∷ []) (3 ∷ []) (4 ∷ []) (own ++ request_instances s.problem.request) (map unknown_instance s.unknown)
    (climbs-append instance_ranks (1 ∷ 1 ∷ []) (2 ∷ []) (3 ∷ []) own (request_instances s.problem.request) (own_climb s 1 s.problem.packages) (request_climbs s.problem.request))
    (unknowns_climb s.unknown h))
  where
    own : List PlainInstance
    own = flat_map (package_instances s) (enumerate_from 1 s.problem.packages)

-- those of a problem ascend
pub problem_ascends : (problem : PlainProblem) → Climbs instance_ranks [] (problem_instances problem) (4 ∷ [])
problem_ascends problem = all_climb (everything problem) refl

-- ---- the listing

before : (k : PlainKey) (is : List PlainInstance) (high : List ℕ) → Climbs instance_ranks (key_ranks k) is high → precedes_all k (map (λ i. i.key) is) ≡ true
before k [] high h = refl
before k (i ∷ is) high h = let later = before k is high (from_lower instance_ranks (key_ranks k) (key_ranks i.key) high is h.0 h.1) in
    λ j. is_lt (h.0 j) && later j

pub climbing_ascends : (low : List ℕ) (is : List PlainInstance) (high : List ℕ) → Climbs instance_ranks low is high → ascend (map (λ i. i.key) is) ≡ true
climbing_ascends low [] high h = refl
climbing_ascends low (i ∷ is) high h = λ j. before i.key is high h.1 j && climbing_ascends (key_ranks i.key) is high h.1 j

pub listing_ascends : (s : Proposal) → ascend_above 0 s.unknown ≡ true → ascend (map (λ i. i.key) (listing s)) ≡ true
unfolding listing
listing_ascends s h = climbing_ascends [] (listing s) (4 ∷ []) (climbs-filter instance_ranks (is_violated s) [] (instances s) (4 ∷ []) (all_climb s h))
