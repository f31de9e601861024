-- CNF clauses of one key, and the order of the keys.
use Rattle.std.proofs.Common.{◌≡◌, Bool, true, false, List, [], ◌∷◌, ◌++◌, map, refl, sym, ap, ◌∙◌, subst}
use Rattle.std.specs.Prelude.{IsTrue, if◌then◌else◌}
use Rattle.std.specs.List.{list_all}
use Rattle.std.specs.Ordering.{is_le, is_lt}
use Rattle.std.specs.declared.cmp.Ordering.TheVariants.{Less}
use Rattle.std.proofs.lemmas.Bool.{and_parts, and_from, cond-true, cond-false}
use Rattle.cudf_job.specs.Keys.{PlainKey, ascend, key_cmp, never_descend}
use Rattle.cudf_job.specs.Working.Keys.{precedes_all}
use Rattle.cudf_lrat.specs.declared.cnf.Literal.{Literal}
use Rattle.cudf_reasons.specs.Laws.{keys_of}
use Rattle.cudf_reasons.specs.Reasons.{Instance, Keyed, PlainReason, core_of, grouped, reason_of, same_key, with_clause}
use Rattle.cudf_reasons.specs.Working.Walks.{keys_ascend}
use Rattle.cudf_reasons.proofs.KeyOrderLemmas.{key_order, less_from_le, less_from_lt, same_is, same_itself}
use Rattle.cudf_reasons.proofs.ListLemmas.{all_weaker}

abbrev only : Keyed → Instance
only needed = record { key = needed.0; clauses = needed.1 ∷ [] }

-- ---- one instance in front

-- none of those after has the key of the first of them
abbrev pub StartsApart : PlainKey → List Keyed → Type 0
StartsApart key [] = Unit {0}
StartsApart key (next ∷ later) = same_key key next.0 ≡ false

-- the first instance has the first key
first_key : (needed : Keyed) (groups : List Instance) → (first : Instance) × (later : List Instance) × (with_clause needed groups ≡ first ∷ later) × (first.key ≡ needed.0)
first_key needed [] = (only needed, [], refl, refl)
first_key needed (group ∷ groups) = by (same_key needed.0 group.key)
  where
    by : (b : Bool) → (first : Instance) × (later : List Instance)
        × ((if b then (record { key = needed.0; clauses = needed.1 ∷ group.clauses }) ∷ groups else (record { key = needed.0; clauses = needed.1 ∷ [] }) ∷ group ∷ groups) ≡ first ∷ later) × (first.key ≡ needed.0)
    by true = (record { key = needed.0; clauses = needed.1 ∷ group.clauses }, groups, refl, refl)
    by false = (only needed, group ∷ groups, refl, refl)

-- one of another key
alone : (needed : Keyed) (first : Instance) (later : List Instance) → same_key needed.0 first.key ≡ false → with_clause needed (first ∷ later) ≡ only needed ∷ first ∷ later
alone needed first later other = cond-false (same_key needed.0 first.key) _ _ other

-- one more of the same key
joined : (needed : Keyed) (first : Instance) (later : List Instance) → same_key needed.0 first.key ≡ true → with_clause needed (first ∷ later) ≡ (record { key = needed.0; clauses = needed.1 ∷ first.clauses }) ∷ later
joined needed first later same = cond-true (same_key needed.0 first.key) _ _ same

last_of_key : (needed : Keyed) (more : List Keyed) → StartsApart needed.0 more → grouped (needed ∷ more) ≡ only needed ∷ grouped more
last_of_key needed [] apart = refl
last_of_key needed (next ∷ more) apart =
    let head = first_key next (grouped more) in
    let other : same_key needed.0 head.0.key ≡ false = ap (same_key needed.0) head.3 ∙ apart in
    ap (with_clause needed) head.2 ∙ alone needed head.0 head.1 other ∙ ap (λ (gs : List Instance). only needed ∷ gs) (sym head.2)

-- all have the key
abbrev pub AllOfKey : PlainKey → List Keyed → Type 0
AllOfKey key [] = Unit {0}
AllOfKey key (needed ∷ more) = (needed.0 ≡ key) × AllOfKey key more

abbrev pub clauses_of : List Keyed → List (List Literal)
clauses_of needed = map (λ (n : Keyed). n.1) needed

-- those of one key, before others
pub grouped_run : (key : PlainKey) (needed : Keyed) (more others : List Keyed) → AllOfKey key (needed ∷ more) → StartsApart key others
    → grouped ((needed ∷ more) ++ others) ≡ (record { key = key; clauses = clauses_of (needed ∷ more) }) ∷ grouped others
grouped_run key needed [] others same apart =
    last_of_key needed others (subst (λ (k : PlainKey). StartsApart k others) (sym same.0) apart)
    ∙ ap (λ (k : PlainKey). (record { key = k; clauses = needed.1 ∷ [] }) ∷ grouped others) same.0
grouped_run key needed (next ∷ more) others same apart =
    ap (with_clause needed) (grouped_run key next more others same.1 apart)
    ∙ joined needed (record { key = key; clauses = clauses_of (next ∷ more) }) (grouped others) (ap (λ k. same_key k key) same.0 ∙ same_itself key)
    ∙ ap (λ (k : PlainKey). (record { key = k; clauses = needed.1 ∷ clauses_of (next ∷ more) }) ∷ grouped others) same.0

-- ---- the order of the keys

abbrev comes_upto : PlainKey → PlainKey → Bool
comes_upto key later = is_le (key_cmp key later)

abbrev instance_keys : List Instance → List PlainKey
instance_keys groups = map (λ (g : Instance). g.key) groups

-- a key that comes before no earlier one of the CNF clauses does so among the instances
upto_with : (key : PlainKey) (needed : Keyed) (groups : List Instance) → comes_upto key needed.0 ≡ true → list_all (comes_upto key) (instance_keys groups) ≡ true → list_all (comes_upto key) (instance_keys (with_clause needed groups)) ≡ true
upto_with key needed [] first all = and_from _ true first refl
upto_with key needed (group ∷ groups) first all = by (same_key needed.0 group.key)
  where
    by : (b : Bool) → list_all (comes_upto key) (instance_keys (if b then (record { key = needed.0; clauses = needed.1 ∷ group.clauses }) ∷ groups else (record { key = needed.0; clauses = needed.1 ∷ [] }) ∷ group ∷ groups)) ≡ true
    by true = and_from (comes_upto key needed.0) (list_all (comes_upto key) (instance_keys groups)) first (and_parts (comes_upto key group.key) (list_all (comes_upto key) (instance_keys groups)) all).1
    by false = and_from (comes_upto key needed.0) (list_all (comes_upto key) (instance_keys (group ∷ groups))) first all

upto_grouped : (key : PlainKey) (needed : List Keyed) → list_all (comes_upto key) (keys_of needed) ≡ true → list_all (comes_upto key) (instance_keys (grouped needed)) ≡ true
upto_grouped key [] all = refl
upto_grouped key (next ∷ more) all =
    let parts = and_parts (comes_upto key next.0) (list_all (comes_upto key) (keys_of more)) all in
    upto_with key next (grouped more) parts.0 (upto_grouped key more parts.1)

before_all : (a b : PlainKey) (keys : List PlainKey) → key_cmp a b ≡ Less → precedes_all b keys ≡ true → precedes_all a keys ≡ true
before_all a b keys less all = all_weaker (λ k. is_lt (key_cmp b k)) (λ k. is_lt (key_cmp a k)) keys (λ k h. ap is_lt (key_order.trans a b k less (less_from_lt (key_cmp b k) h))) all

ascend_with : (needed : Keyed) (groups : List Instance) → list_all (comes_upto needed.0) (instance_keys groups) ≡ true → ascend (instance_keys groups) ≡ true → ascend (instance_keys (with_clause needed groups)) ≡ true
ascend_with needed [] upto up = refl
ascend_with needed (group ∷ groups) upto up = by (same_key needed.0 group.key) refl
  where
    by : (b : Bool) → same_key needed.0 group.key ≡ b
        → ascend (instance_keys (if b then (record { key = needed.0; clauses = needed.1 ∷ group.clauses }) ∷ groups else (record { key = needed.0; clauses = needed.1 ∷ [] }) ∷ group ∷ groups)) ≡ true
    by true same =
        let parts = and_parts (precedes_all group.key (instance_keys groups)) (ascend (instance_keys groups)) up in
        and_from (precedes_all needed.0 (instance_keys groups)) (ascend (instance_keys groups)) (ap (λ k. precedes_all k (instance_keys groups)) (same_is needed.0 group.key same) ∙ parts.0) parts.1
    by false other =
        let parts = and_parts (precedes_all group.key (instance_keys groups)) (ascend (instance_keys groups)) up in
        let first = less_from_le (key_cmp needed.0 group.key) (and_parts (comes_upto needed.0 group.key) (list_all (comes_upto needed.0) (instance_keys groups)) upto).0 other in
        and_from (precedes_all needed.0 (group.key ∷ instance_keys groups)) (ascend (group.key ∷ instance_keys groups))
        (and_from (is_lt (key_cmp needed.0 group.key)) (precedes_all needed.0 (instance_keys groups)) first (before_all needed.0 group.key (instance_keys groups) (less_from_lt _ first) parts.0))
        up

grouped_ascend : (needed : List Keyed) → never_descend (keys_of needed) ≡ true → ascend (instance_keys (grouped needed)) ≡ true
grouped_ascend [] up = refl
grouped_ascend (next ∷ more) up =
    let parts = and_parts (list_all (comes_upto next.0) (keys_of more)) (never_descend (keys_of more)) up in
    ascend_with next (grouped more) (upto_grouped next.0 more parts.0) (grouped_ascend more parts.1)

map_twice : (groups : List Instance) → map (λ (r : PlainReason). r.key) (map reason_of groups) ≡ instance_keys groups
map_twice [] = refl
map_twice (group ∷ groups) = ap (λ (ks : List PlainKey). group.key ∷ ks) (map_twice groups)

pub core_ascends : (needed : List Keyed) → IsTrue (never_descend (keys_of needed)) → IsTrue (keys_ascend (core_of needed))
core_ascends needed up = ap ascend (map_twice (grouped needed)) ∙ grouped_ascend needed up
