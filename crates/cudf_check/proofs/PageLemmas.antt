-- What of the listing lies after the last key of a page.
use Rattle.std.proofs.Common.{◌≡◌, inl, inr, ℕ, zero, suc, ◌+◌, Bool, true, false, ◌&&◌, cond, List, [], ◌∷◌, ◌++◌, map, filter, length, get_or, take, drop, ◌-◌, ◌<◌, ◌≤◌, arith, drop-cons, Option, Some, None, option_map, refl, sym, ap, ◌∙◌, append_assoc, append-nil, add-one, take-append-drop, codes, if◌then◌else◌}
use Rattle.std.specs.List.{flat_map, last_or}
use Rattle.std.specs.Option.{option_map_or}
use Rattle.std.specs.Ordering.{is_lt, ordering_reverse}
use Rattle.std.proofs.lemmas.Bool.{true≢false}
use Rattle.std.proofs.lemmas.Cmp.{nat_list_cmp_total}
use Rattle.std.proofs.lemmas.List.{take_more, take_all, drop_all, length-drop}
use Rattle.cudf_referee.specs.Instances.{PlainInstance}
use Rattle.cudf_job.specs.Keys.{PlainKey, key_ranks, key_cmp, ascend, key_text}
use Rattle.cudf_job.specs.Working.Keys.{precedes_all}
use Rattle.cudf_job.specs.declared.key.Key.{Key}
use Rattle.cudf_problem.specs.Documents.{is_empty}
use Rattle.cudf_job.specs.KeyViews.{key_view}
use Rattle.cudf_referee.specs.Proposals.{Proposal}
use Rattle.cudf_referee.specs.Violations.{listing, rest}
use Rattle.cudf_check.specs.Styles.{Style}
use Rattle.cudf_check.specs.Report.{line, instance_line, more_text, check_text}
use Rattle.cudf_referee.specs.Promises.Pages as pages
use Rattle.cudf_referee.specs.Promises.Walks.{Walking, left}
use Rattle.cudf_check.specs.Working.Pages.{Ascends, IsPageEnd, IsEnded, end_key, listed, more_after, more_behind}
use Rattle.cudf_job.proofs.RankingLemmas.{and_left, and_right, is_less}

-- ---- the order of keys

-- the one key comes before the other
abbrev pub precedes : PlainKey → PlainKey → Bool
precedes a b = is_lt (key_cmp a b)

-- the instances whose keys come after this one
abbrev pub behind : PlainKey → List PlainInstance → List PlainInstance
behind key is = filter (λ i. is_lt (key_cmp key i.key)) is

keys : List PlainInstance → List PlainKey
keys is = map (λ i. i.key) is

some_of : {a b : PlainKey} → Some a ≡ Some b → a ≡ b
some_of e = cc e

none_is_some : {key : PlainKey} → ◌≡◌ {0} {A = Option PlainKey} None (Some key) → ⊥
none_is_some e = cc e

precedes-through : (a b c : PlainKey) → precedes a b ≡ true → precedes b c ≡ true → precedes a c ≡ true
precedes-through a b c h k = ap is_lt (nat_list_cmp_total.trans (key_ranks a) (key_ranks b) (key_ranks c) (is_less (key_cmp a b) h) (is_less (key_cmp b c) k))

precedes-back : (a b : PlainKey) → precedes a b ≡ true → precedes b a ≡ false
precedes-back a b h = ap is_lt (nat_list_cmp_total.antisymm (key_ranks b) (key_ranks a) ∙ ap ordering_reverse (is_less (key_cmp a b) h))

itself_case : (a : PlainKey) (b : Bool) → precedes a a ≡ b → precedes a a ≡ false
itself_case a true h = precedes-back a a h
itself_case a false h = h

precedes-itself : (a : PlainKey) → precedes a a ≡ false
precedes-itself a = itself_case a (precedes a a) refl

-- ---- ascending lists

-- all come after a key that precedes them
behind-all : (key : PlainKey) (is : List PlainInstance) → precedes_all key (map (λ i. i.key) is) ≡ true → behind key is ≡ is
behind-all key [] h = refl
behind-all key (i ∷ is) h =
    let here = and_left (precedes key i.key) (precedes_all key (map (λ j. j.key) is)) h in
    let others = and_right (precedes key i.key) (precedes_all key (map (λ j. j.key) is)) h in
    ap (λ b. cond b (i ∷ behind key is) (behind key is)) here ∙ ap (λ js. i ∷ js) (behind-all key is others)

-- the first of several comes before the last one
before_last : (first key : PlainKey) (i : PlainInstance) (front back : List PlainInstance) → precedes_all first (map (λ j. j.key) ((i ∷ front) ++ back)) ≡ true
    → end_key (i ∷ front) ≡ Some key → precedes first key ≡ true
before_last first key i [] back h last =
    ap (precedes first) (sym (some_of last)) ∙ and_left (precedes first i.key) (precedes_all first (map (λ j. j.key) back)) h
before_last first key i (j ∷ front) back h last =
    before_last first key j front back (and_right (precedes first i.key) (precedes_all first (map (λ k. k.key) ((j ∷ front) ++ back))) h) last

-- after the last key of a front lies what follows the front
pub behind-front : (key : PlainKey) (front back : List PlainInstance) → ascend (map (λ i. i.key) (front ++ back)) ≡ true → end_key front ≡ Some key
    → behind key (front ++ back) ≡ back
behind-front key [] back h last = absurd (none_is_some last)
behind-front key (i ∷ []) back h last =
    let others = and_left (precedes_all i.key (map (λ j. j.key) back)) (ascend (map (λ j. j.key) back)) h in
    ap (λ k. behind k (i ∷ back)) (sym (some_of last))
    ∙ ap (λ b. cond b (i ∷ behind i.key back) (behind i.key back)) (precedes-itself i.key)
    ∙ behind-all i.key back others
behind-front key (i ∷ j ∷ front) back h last =
    let rest = (j ∷ front) ++ back in
    let before = before_last i.key key j front back (and_left (precedes_all i.key (map (λ k. k.key) rest)) (ascend (map (λ k. k.key) rest)) h) last in
    ap (λ b. cond b (i ∷ behind key rest) (behind key rest)) (precedes-back i.key key before)
    ∙ behind-front key (j ∷ front) back (and_right (precedes_all i.key (map (λ k. k.key) rest)) (ascend (map (λ k. k.key) rest)) h) last

-- ---- after a key, and after a later one

-- where one comes after a key, so do all that follow it
follows_case : (key : PlainKey) (i : PlainInstance) (is : List PlainInstance) → precedes key i.key ≡ true → precedes_all i.key (map (λ j. j.key) is) ≡ true
    → precedes_all key (map (λ j. j.key) is) ≡ true
follows_case key i [] h k = refl
follows_case key i (j ∷ is) h k =
    let here = precedes-through key i.key j.key h (and_left (precedes i.key j.key) (precedes_all i.key (map (λ l. l.key) is)) k) in
    let others = follows_case key i is h (and_right (precedes i.key j.key) (precedes_all i.key (map (λ l. l.key) is)) k) in
    ap (λ b. b && precedes_all key (map (λ l. l.key) is)) here ∙ others

-- an ascending list is a front and what follows a key
pub record IsCut (key : PlainKey) (is : List PlainInstance) : Type 0 where
  pub front : List PlainInstance
  pub whole : front ++ behind key is ≡ is

cut_case : (key : PlainKey) (i : PlainInstance) (is : List PlainInstance) (b : Bool) → precedes key i.key ≡ b → ascend (map (λ j. j.key) (i ∷ is)) ≡ true
    → IsCut key is → IsCut key (i ∷ is)
cut_case key i is true h up cut = record {
  front = [];
  whole = behind-all key (i ∷ is) (ap (λ b. b && precedes_all key (map (λ j. j.key) is)) h
      ∙ follows_case key i is h (and_left (precedes_all i.key (map (λ j. j.key) is)) (ascend (map (λ j. j.key) is)) up));
}
cut_case key i is false h up cut = record {
  front = i ∷ cut.front;
  whole = ap (λ b. i ∷ (cut.front ++ cond b (i ∷ behind key is) (behind key is))) h ∙ ap (λ js. i ∷ js) cut.whole;
}

pub is_cut : (key : PlainKey) (is : List PlainInstance) → ascend (map (λ i. i.key) is) ≡ true → IsCut key is
is_cut key [] up = record { front = []; whole = refl }
is_cut key (i ∷ is) up = cut_case key i is (precedes key i.key) refl up
    (is_cut key is (and_right (precedes_all i.key (map (λ j. j.key) is)) (ascend (map (λ j. j.key) is)) up))

-- the last key of two lists is that of the second, where that has one
last_of_both : (front : List PlainInstance) (is : List PlainInstance) (key : PlainKey) → end_key is ≡ Some key → end_key (front ++ is) ≡ Some key
last_of_both [] is key h = h
last_of_both (i ∷ []) [] key h = absurd (none_is_some h)
last_of_both (i ∷ []) (j ∷ is) key h = h
last_of_both (i ∷ j ∷ front) is key h = last_of_both (j ∷ front) is key h

-- after the last key of a page of what follows a key is what follows the page
pub behind-page : (after key : PlainKey) (is page left : List PlainInstance) → ascend (map (λ i. i.key) is) ≡ true → behind after is ≡ page ++ left
    → end_key page ≡ Some key → behind key is ≡ left
behind-page after key is page left up parts last =
    let cut = is_cut after is up in
    let whole : (cut.front ++ page) ++ left ≡ is = append_assoc cut.front page left ∙ ap (λ js. cut.front ++ js) (sym parts) ∙ cut.whole in
    ap (behind key) (sym whole)
    ∙ behind-front key (cut.front ++ page) left (ap (λ js. ascend (map (λ i. i.key) js)) whole ∙ up) (last_of_both cut.front page key last)

-- ---- one instance more

-- the last key after one instance more
pub last_of_more : (is : List PlainInstance) (i : PlainInstance) → end_key (is ++ i ∷ []) ≡ Some i.key
last_of_more [] i = refl
last_of_more (j ∷ []) i = refl
last_of_more (j ∷ k ∷ is) i = last_of_more (k ∷ is) i

-- what one step takes off
pub record Step (is : List PlainInstance) (n : ℕ) (i : PlainInstance) (left : List PlainInstance) : Type 0 where
  pub taken : take (n + 1) is ≡ take n is ++ i ∷ []
  pub left_is : left ≡ drop (n + 1) is
  pub below : n + 1 ≤ length is

pub step : (is : List PlainInstance) (n : ℕ) (i : PlainInstance) (left : List PlainInstance) → drop n is ≡ i ∷ left → Step is n i left
step is n i left h =
    let below : n < length is = longer is n i left h in
    let parts : get_or is n i ∷ drop (suc n) is ≡ i ∷ left = sym (drop-cons is n i below) ∙ h in
    record {
      taken = take_more is n i below ∙ ap (λ j. take n is ++ j ∷ []) (heads (get_or is n i) i (drop (suc n) is) left parts);
      left_is = sym (tails (get_or is n i) i (drop (suc n) is) left parts) ∙ ap (λ m. drop m is) (sym (add-one n));
      below = omega arith;
    }
  where
    longer : (is : List PlainInstance) (n : ℕ) (i : PlainInstance) (left : List PlainInstance) → drop n is ≡ i ∷ left → n < length is
    longer is n i left h = let len : length is - n ≡ suc (length left) = sym (length-drop n is) ∙ ap length h in omega arith

    heads : (a b : PlainInstance) (xs ys : List PlainInstance) → a ∷ xs ≡ b ∷ ys → a ≡ b
    heads a b xs ys e = cc e

    tails : (a b : PlainInstance) (xs ys : List PlainInstance) → a ∷ xs ≡ b ∷ ys → xs ≡ ys
    tails a b xs ys e = cc e

-- ---- a page of so many instances

pub take-nothing : (m : ℕ) (is : List PlainInstance) → is ≡ [] → take m is ≡ []
take-nothing m is h = ap (take m) h ∙ take-empty m
  where
    take-empty : (m : ℕ) → take {A = PlainInstance} m [] ≡ []
    take-empty zero = refl
    take-empty (suc m) = refl

-- nothing follows where nothing did before
pub drop-further : (n limit : ℕ) (is : List PlainInstance) → n ≤ limit → drop n is ≡ [] → drop limit is ≡ []
drop-further n limit is h none = drop_all limit is (let len : length is - n ≡ 0 = sym (length-drop n is) ∙ ap length none in omega arith)

pub take-further : (n limit : ℕ) (is : List PlainInstance) → n ≤ limit → drop n is ≡ [] → take n is ≡ take limit is
take-further n limit is h none =
    let len : length is - n ≡ 0 = sym (length-drop n is) ∙ ap length none in
    take_all n is (omega arith) ∙ sym (take_all limit is (omega arith))

-- the end of a page without so many
pub ended : (limit : ℕ) (old new : List PlainInstance) (has_failed : Bool) → drop limit old ≡ [] → IsEnded limit old new None has_failed
ended limit old new true none = tt
ended limit old new false none = inr none

-- the end of a page at its limit
pub page_end : (limit : ℕ) (old new : List PlainInstance) (last : Option Key) → option_map key_view last ≡ end_key (take limit old) → new ≡ drop limit old
    → IsPageEnd limit old new last
page_end limit old new None h left = inl (sym h)
page_end limit old new (Some key) h left = (sym h, left)

-- ---- where the next page begins

-- the line that tells it
abbrev pub more_line : Option PlainKey → List ℕ
more_line None = []
more_line (Some key) = line (codes "more after " ++ key_text key)

left_of : (s : Proposal) (after : Option PlainKey) (key : PlainKey) (page left : List PlainInstance) → Ascends s → listed after s ≡ page ++ left → end_key page ≡ Some key
    → rest key s ≡ left
left_of s None key page left up parts last = ap (behind key) parts ∙ behind-front key page left (ap (λ js. ascend (map (λ i. i.key) js)) (sym parts) ∙ up) last
left_of s (Some after) key page left up parts last = behind-page after key (listing s) page left up parts last

-- it is reported of the last instance as of its key
more_of : (s : Proposal) (last : Option PlainInstance) → more_text s last ≡ more_after s (option_map (λ i. i.key) last)
more_of s None = refl
more_of s (Some i) = refl

-- where nothing follows a page there is no such line
none_more : (s : Proposal) (after : Option PlainKey) (page : List PlainInstance) (last : Option PlainKey) → Ascends s → listed after s ≡ page ++ [] → end_key page ≡ last
    → more_after s last ≡ []
none_more s after page None up parts h = refl
none_more s after page (Some key) up parts h = ap (λ is. if is_empty is then [] else line (codes "more after " ++ key_text key)) (left_of s after key page [] up parts h)

pub more-none : (s : Proposal) (after : Option PlainKey) → Ascends s → more_text s (last_or None (listed after s)) ≡ []
more-none s after up = more_of s (last_or None (listed after s)) ∙ none_more s after (listed after s) (end_key (listed after s)) up (sym (append-nil (listed after s))) refl

some_more : (s : Proposal) (key : PlainKey) (new : List PlainInstance) (last : Option Key) → last ≡ last → rest key s ≡ new
    → more_after s (Some key) ≡ (if is_empty new then [] else more_line (Some key))
some_more s key new last same h = ap (λ is. if is_empty is then [] else line (codes "more after " ++ key_text key)) h

chosen : (new : List PlainInstance) (last : Option Key) → (if is_empty new then [] else more_line (option_map key_view last)) ≡ more_line (option_map key_view (if is_empty new then None else last))
chosen [] last = refl
chosen (i ∷ new) last = refl

-- without a key none is reported
pub more-no-key : (new : List PlainInstance) → more_line (option_map key_view (if is_empty new then None else None)) ≡ []
more-no-key [] = refl
more-no-key (i ∷ new) = refl

-- the line after a page is that of the key after which the next page begins
pub more-line : (s : Proposal) (after : Option PlainKey) (limit : ℕ) (new : List PlainInstance) (last : Option Key) → Ascends s
    → IsPageEnd limit (listed after s) new last
    → more_text s (last_or None (take limit (listed after s))) ≡ more_line (option_map key_view (if is_empty new then None else last))
more-line s after limit new (Some key) up (last, left) =
    let parts : listed after s ≡ take limit (listed after s) ++ drop limit (listed after s) = sym (take-append-drop limit (listed after s)) in
    more_of s (last_or None (take limit (listed after s))) ∙ ap (more_after s) last
    ∙ some_more s (key_view key) new None refl (left_of s after (key_view key) (take limit (listed after s)) (drop limit (listed after s)) up parts last ∙ sym left)
    ∙ chosen new (Some key)
more-line s after limit new None up (inl none) = more_of s (last_or None (take limit (listed after s))) ∙ ap (more_after s) none ∙ sym (more-no-key new)
more-line s after limit new None up (inr left) =
    let parts : listed after s ≡ take limit (listed after s) ++ [] = sym (take-append-drop limit (listed after s)) ∙ ap (λ is. take limit (listed after s) ++ is) left in
    more_of s (last_or None (take limit (listed after s))) ∙ none_more s after (take limit (listed after s)) (end_key (take limit (listed after s))) up parts refl ∙ sym (more-no-key new)

-- with the key of the last instance it is reported where one is left
pub more-key : (new : List PlainInstance) (key : Key) → more_line (option_map key_view (if is_empty new then None else Some key)) ≡ more_behind new (key_view key)
more-key [] key = refl
more-key (i ∷ new) key = refl

-- at the start, or after a key, the rest of the listing is left
listed_at : (s : Proposal) (after : Option PlainKey) → pages.left_at (pages.behind after) s ≡ listed after s
listed_at s None = refl
listed_at s (Some key) = refl

pub left_listed : (s : Proposal) (after : Option PlainKey) (w : Walking) → w.judged ≡ s → w.position ≡ pages.behind after → left w ≡ listed after s
left_listed s after w judged position = (λ i. pages.left_at (position i) (judged i)) ∙ listed_at s after

-- ---- a listing without an instance

nothing_in : (is : List PlainInstance) → is_empty is ≡ true → is ≡ []
nothing_in [] h = refl
nothing_in (i ∷ is) h = absurd (true≢false (sym h))

nothing_listed : (s : Proposal) (after : Option PlainKey) → listing s ≡ [] → listed after s ≡ []
nothing_listed s None none = none
nothing_listed s (Some key) none = ap (behind key) none

nothing_limited : (limit : Option ℕ) (is : List PlainInstance) → is ≡ [] → option_map_or (λ n. take n is) limit is ≡ []
nothing_limited None is none = none
nothing_limited (Some limit) is none = take-nothing limit is none

-- no page of it has a text, after any key and up to any limit
pub no-page : (style : Style) (s : Proposal) (after : Option PlainKey) (limit : Option ℕ) → is_empty (listing s) ≡ true
    → check_text style after limit s ≡ []
no-page style s after limit h = ap (λ page. flat_map (instance_line style s) page ++ more_text s (last_or None page)) (nothing_limited limit (listed after s) (nothing_listed s after (nothing_in (listing s) h)))
