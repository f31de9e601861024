-- The pages join to the listing's beginning, and the calls for a page cost no more than its bound.
use Rattle.std.proofs.Common.{◌≡◌, ℕ, zero, suc, ◌+◌, ◌≤◌, Bool, true, false, ◌&&◌, List, [], ◌∷◌, ◌++◌, length, map, filter, take, drop, cond, Option, Some, None, arith, refl, ap, sym, ◌∙◌, append_assoc, add-one, add-zero, sum, subst}
use Rattle.std.specs.Prelude.{slice_get, All, option_and_then}
use Rattle.std.proofs.lemmas.List.Elements.{All-head, All-tail, All-take, All-filter}
use Rattle.std.specs.List.{flat_map}
use Rattle.std.proofs.lemmas.List.{take-append-drop}
use Rattle.std.proofs.lemmas.List.Sums.{sum_by-cons}
use Rattle.std.proofs.Math.Seq.{take-add}
use Rattle.cudf_index.specs.Promises.Prices.{digits}
use Rattle.cudf_referee.specs.Instances.{PlainInstance}
use Rattle.cudf_job.specs.Keys.{PlainKey, ascend, key_text}
use Rattle.cudf_job.specs.Working.Keys.{precedes_all}
use Rattle.cudf_job.specs.Promises.Keys.{IsWritable}
use Rattle.cudf_referee.specs.Proposals.{Proposal}
use Rattle.cudf_referee.specs.Violations.{listing, rest}
use Rattle.cudf_referee.specs.Promises.Stops.{PlainPosition, at_start, at_key, at_end, precedes, cost_between}
use Rattle.cudf_referee.specs.Promises.Pages.{left_at, behind, page, last_key, pages, ReadsKeys, at_instance, page_bound, calls, cost_along, page_price}
use Rattle.cudf_referee.proofs.ListLemmas.{and_left, and_right}
use Rattle.cudf_referee.proofs.PositionLemmas.{precedes-itself, precedes-back, IsLater, later-key, later-end, later-start, later-chained, cost_between-joined}

abbrev pub keys_of : List PlainInstance → List PlainKey
keys_of is = map (λ i. i.key) is

-- ---- what is left after an instance

-- all of these come after the key
pub behind_all : (key : PlainKey) (is : List PlainInstance) → precedes_all key (keys_of is) ≡ true → filter (λ i. precedes key i.key) is ≡ is
behind_all key [] h = refl
behind_all key (i ∷ is) h =
    ap (λ b. cond b (i ∷ kept) kept) (and_left (precedes key i.key) (precedes_all key (keys_of is)) h)
    ∙ ap (λ js. i ∷ js) (behind_all key is (and_right (precedes key i.key) (precedes_all key (keys_of is)) h))
  where
    kept : List PlainInstance
    kept = filter (λ i. precedes key i.key) is

-- the key of an instance after others comes after theirs
among : (key : PlainKey) (front : List PlainInstance) (i : PlainInstance) (back : List PlainInstance) → precedes_all key (keys_of (front ++ i ∷ back)) ≡ true → precedes key i.key ≡ true
among key [] i back h = and_left (precedes key i.key) (precedes_all key (keys_of back)) h
among key (x ∷ front) i back h = among key front i back (and_right (precedes key x.key) (precedes_all key (keys_of (front ++ i ∷ back))) h)

-- what is left after an instance is what follows it
after_front : (front : List PlainInstance) (i : PlainInstance) (back : List PlainInstance) → ascend (keys_of (front ++ i ∷ back)) ≡ true
    → filter (λ j. precedes i.key j.key) (front ++ i ∷ back) ≡ back
after_front [] i back h =
    ap (λ b. cond b (i ∷ kept) kept) (precedes-itself i.key)
    ∙ behind_all i.key back (and_left (precedes_all i.key (keys_of back)) (ascend (keys_of back)) h)
  where
    kept : List PlainInstance
    kept = filter (λ j. precedes i.key j.key) back
after_front (x ∷ front) i back h =
    ap (λ b. cond b (x ∷ kept) kept) (precedes-back x.key i.key (among x.key front i back (and_left (precedes_all x.key (keys_of all)) (ascend (keys_of all)) h)))
    ∙ after_front front i back (and_right (precedes_all x.key (keys_of all)) (ascend (keys_of all)) h)
  where
    all : List PlainInstance
    all = front ++ i ∷ back

    kept : List PlainInstance
    kept = filter (λ j. precedes i.key j.key) all

-- what is left after the last of some instances is what follows them
left_behind : (s : Proposal) (key : Option PlainKey) (front is back : List PlainInstance) → ascend (keys_of (listing s)) ≡ true
    → listing s ≡ front ++ (is ++ back) → left_at (behind key) s ≡ is ++ back → left_at (behind (last_key key is)) s ≡ back
left_behind s key front [] back ascends whole left = left
left_behind s key front (i ∷ is) back ascends whole left =
    left_behind s (Some i.key) (front ++ i ∷ []) is back ascends
    (whole ∙ sym (append_assoc front (i ∷ []) (is ++ back)))
    (ap (filter (λ j. precedes i.key j.key)) whole ∙ after_front front i (is ++ back) (ap (λ js. ascend (keys_of js)) (sym whole) ∙ ascends))

-- ---- the pages joined

abbrev pub joined : List (List PlainInstance) → List PlainInstance
joined pages = flat_map (λ is. is) pages

-- the key can be written, if there is one
abbrev KeyIsWritable : Option PlainKey → Type 0
KeyIsWritable None = Unit {0}
KeyIsWritable (Some key) = IsWritable key

last_writable : (key : Option PlainKey) (is : List PlainInstance) → KeyIsWritable key → All (λ i. IsWritable i.key) is → KeyIsWritable (last_key key is)
last_writable key [] written all = written
last_writable key (i ∷ is) written all = last_writable (Some i.key) is (All-head (λ j. IsWritable j.key) i is all) (All-tail (λ j. IsWritable j.key) i is all)

-- a key that can be written is read back
read_back : (read : List ℕ → Option PlainKey) → ReadsKeys read → (key : Option PlainKey) → KeyIsWritable key → option_and_then (λ last. read (key_text last)) key ≡ key
read_back read reads None written = refl
read_back read reads (Some key) written = reads key written

left_writable : (s : Proposal) (key : Option PlainKey) → All (λ i. IsWritable i.key) (listing s) → All (λ i. IsWritable i.key) (left_at (behind key) s)
left_writable s None all = all
left_writable s (Some key) all = All-filter (λ i. precedes key i.key) (λ i. IsWritable i.key) (listing s) all

joined_from : (read : List ℕ → Option PlainKey) → ReadsKeys read → (s : Proposal) (key : Option PlainKey) (sizes : List ℕ) (front back : List PlainInstance)
    → All (λ i. IsWritable i.key) (listing s) → KeyIsWritable key → ascend (keys_of (listing s)) ≡ true
    → listing s ≡ front ++ back → left_at (behind key) s ≡ back → joined (pages read s key sizes) ≡ take (sum sizes) back
joined_from read reads s key [] front back all written ascends whole left = refl
joined_from read reads s key (n ∷ sizes) front back all written ascends whole left =
    ap (λ next. page s key n ++ joined (pages read s next sizes)) (read_back read reads (last_key key (page s key n)) last)
    ∙ (λ i. page_is i ++ joined (pages read s (last_key key (page_is i)) sizes))
    ∙ ap (λ js. take n back ++ js) (joined_from read reads s (last_key key (take n back)) sizes (front ++ take n back) (drop n back) all
    (subst (λ is. KeyIsWritable (last_key key is)) page_is last) ascends
    (whole ∙ ap (λ js. front ++ js) cut ∙ sym (append_assoc front (take n back) (drop n back)))
    (left_behind s key front (take n back) (drop n back) ascends (whole ∙ ap (λ js. front ++ js) cut) (left ∙ cut)))
    ∙ sym (ap (λ m. take m back) (sum_by-cons (λ size. size) n sizes) ∙ take-add n (sum sizes) back)
  where
    page_is : page s key n ≡ take n back
    page_is = ap (take n) left

    cut : back ≡ take n back ++ drop n back
    cut = sym (take-append-drop n back)

    last : KeyIsWritable (last_key key (page s key n))
    last = last_writable key (page s key n) written (All-take (λ i. IsWritable i.key) n (left_at (behind key) s) (left_writable s key all))

pub pages-joined : (read : List ℕ → Option PlainKey) → ReadsKeys read → (s : Proposal) (sizes : List ℕ) → All (λ i. IsWritable i.key) (listing s) → ascend (keys_of (listing s)) ≡ true
    → joined (pages read s None sizes) ≡ take (sum sizes) (listing s)
pages-joined read reads s sizes all ascends = joined_from read reads s None sizes [] (listing s) all tt ascends refl refl

-- ---- the price of a page

-- each position lies after the one before
abbrev Climbing : PlainPosition → List PlainInstance → Type 0
Climbing old [] = Unit {0}
Climbing old (i ∷ is) = IsLater old (at_key i.key) × Climbing (at_key i.key) is

last_later : (old : PlainPosition) (is : List PlainInstance) (n : ℕ) → Climbing old is → IsLater old (at_instance (slice_get is n))
last_later old [] n climbing = later-end old
last_later old (i ∷ is) zero climbing = climbing.0
last_later old (i ∷ is) (suc n) climbing = later-chained old (at_key i.key) (at_instance (slice_get is n)) climbing.0 (last_later (at_key i.key) is n climbing.1)

call-first : (n : ℕ) (position : PlainPosition) (more : List PlainPosition) → take (n + 1) (position ∷ more) ≡ position ∷ take n more
call-first n position more = ap (λ m. take m (position ∷ more)) (add-one n)

no_more : (n : ℕ) (more : List PlainPosition) → more ≡ [] → take n more ≡ []
no_more zero more h = refl
no_more (suc n) [] h = refl
no_more (suc n) (x ∷ more) h = absurd (cc h)

cost-calls : (s : Proposal) (old : PlainPosition) (is : List PlainInstance) (n : ℕ) → Climbing old is
    → cost_along s old (calls is n) ≡ cost_between s old (at_instance (slice_get is n))
cost-calls s old [] n climbing = ap (cost_along s old) (call-first n at_end [] ∙ ap (λ more. at_end ∷ more) (no_more n [] refl)) ∙ add-zero (cost_between s old at_end)
cost-calls s old (i ∷ is) zero climbing = ap (cost_along s old) (call-first zero (at_key i.key) (map (λ j. at_key j.key) is ++ at_end ∷ [])) ∙ add-zero (cost_between s old (at_key i.key))
cost-calls s old (i ∷ is) (suc n) climbing =
    ap (cost_along s old) (call-first (suc n) (at_key i.key) (map (λ j. at_key j.key) is ++ at_end ∷ []))
    ∙ ap (λ m. cost_between s old (at_key i.key) + cost_along s (at_key i.key) (take m (map (λ j. at_key j.key) is ++ at_end ∷ []))) (sym (add-one n))
    ∙ ap (λ cost. cost_between s old (at_key i.key) + cost) (cost-calls s (at_key i.key) is n climbing.1)
    ∙ cost_between-joined s old (at_key i.key) (at_instance (slice_get is n)) climbing.0 (last_later (at_key i.key) is n climbing.1)

climbs_on : (key : PlainKey) (is : List PlainInstance) → precedes_all key (keys_of is) ≡ true → ascend (keys_of is) ≡ true → Climbing (at_key key) is
climbs_on key [] h k = tt
climbs_on key (i ∷ is) h k = (
  later-key key i.key (and_left (precedes key i.key) (precedes_all key (keys_of is)) h),
  climbs_on i.key is (and_left (precedes_all i.key (keys_of is)) (ascend (keys_of is)) k) (and_right (precedes_all i.key (keys_of is)) (ascend (keys_of is)) k),
)

kept_preceded : (key : PlainKey) (i : PlainInstance) (b : Bool) (kept : List PlainInstance) → (b ≡ true → precedes key i.key ≡ true)
    → precedes_all key (keys_of kept) ≡ true → precedes_all key (keys_of (cond b (i ∷ kept) kept)) ≡ true
kept_preceded key i true kept here below = λ j. here refl j && below j
kept_preceded key i false kept here below = below

-- what is kept of instances that a key precedes
preceded_kept : (key : PlainKey) (test : PlainInstance → Bool) (is : List PlainInstance) → precedes_all key (keys_of is) ≡ true → precedes_all key (keys_of (filter test is)) ≡ true
preceded_kept key test [] h = refl
preceded_kept key test (i ∷ is) h = kept_preceded key i (test i) (filter test is) (λ t. and_left (precedes key i.key) (precedes_all key (keys_of is)) h)
    (preceded_kept key test is (and_right (precedes key i.key) (precedes_all key (keys_of is)) h))

kept_ascends : (i : PlainInstance) (b : Bool) (kept : List PlainInstance) → precedes_all i.key (keys_of kept) ≡ true → ascend (keys_of kept) ≡ true
    → ascend (keys_of (cond b (i ∷ kept) kept)) ≡ true
kept_ascends i true kept first below = λ j. first j && below j
kept_ascends i false kept first below = below

ascending_kept : (test : PlainInstance → Bool) (is : List PlainInstance) → ascend (keys_of is) ≡ true → ascend (keys_of (filter test is)) ≡ true
ascending_kept test [] h = refl
ascending_kept test (i ∷ is) h = kept_ascends i (test i) (filter test is)
    (preceded_kept i.key test is (and_left (precedes_all i.key (keys_of is)) (ascend (keys_of is)) h))
    (ascending_kept test is (and_right (precedes_all i.key (keys_of is)) (ascend (keys_of is)) h))

preceded : (key : PlainKey) (is : List PlainInstance) → precedes_all key (keys_of (filter (λ i. precedes key i.key) is)) ≡ true
preceded key [] = refl
preceded key (i ∷ is) = kept_preceded key i (precedes key i.key) (filter (λ j. precedes key j.key) is) (λ h. h) (preceded key is)

left_climbs : (s : Proposal) (key : Option PlainKey) → ascend (keys_of (listing s)) ≡ true → Climbing (behind key) (left_at (behind key) s)
left_climbs s None ascends = from_start (listing s) ascends
  where
    from_start : (is : List PlainInstance) → ascend (keys_of is) ≡ true → Climbing at_start is
    from_start [] h = tt
    from_start (i ∷ is) h = (
      later-start (at_key i.key),
      climbs_on i.key is (and_left (precedes_all i.key (keys_of is)) (ascend (keys_of is)) h) (and_right (precedes_all i.key (keys_of is)) (ascend (keys_of is)) h),
    )
left_climbs s (Some key) ascends = climbs_on key (rest key s) (preceded key (listing s)) (ascending_kept (λ i. precedes key i.key) (listing s) ascends)

-- the calls for a page cost what the bound says
pub price-page : (s : Proposal) (key : Option PlainKey) (n : ℕ) → ascend (keys_of (listing s)) ≡ true → page_price s key n ≡ page_bound s key n
price-page s key n ascends = ap (λ cost. digits (length s.unknown) + cost) (cost-calls s (behind key) (left_at (behind key) s) n (left_climbs s key ascends))

-- a front that is long enough is the whole
pub take-whole : {A : Type 0} (n : ℕ) (xs : List A) → length xs ≤ n → take n xs ≡ xs
take-whole zero [] h = refl
take-whole zero (x ∷ xs) h = absurd (omega arith)
take-whole (suc n) [] h = refl
take-whole (suc n) (x ∷ xs) h = ap (λ ys. x ∷ ys) (take-whole n xs (omega arith))
