-- Texts that are cut at points, and the numbers in keys.
use Rattle.std.proofs.Common.{◌≡◌, ℕ, suc, ◌+◌, ◌%◌, ◌<◌, ◌^◌, Bool, true, false, not, ◌&&◌, ◌==◌, cond, List, [], ◌∷◌, ◌++◌, length, take, drop, Option, Some, None, Bor, refl, ap, sym, ◌∙◌, arith, decimal, length-append, append_assoc}
use Rattle.std.specs.Prelude.{MatchOption, IsSomeAnd, IfSome, option_map, if◌then◌else◌}
use Rattle.std.specs.List.{position_or_len, before_first, after_first}
use Rattle.std.specs.Str.Parse.{digits_value}
use Rattle.std.proofs.lemmas.Bool.{true≢false, ne_eqb}
use Rattle.std.proofs.lemmas.Fmt.{decimal_by_steps, decimal_is_IsNumeral}
use Rattle.std.proofs.lemmas.List.{append-nil}
use Rattle.cudf_job.specs.declared.key.Part.{Part}
use Rattle.cudf_job.specs.declared.key.Part.TheVariants.{Package, Request, Solution}
use Rattle.cudf_job.specs.declared.key.Rule.{Rule}
use Rattle.cudf_job.specs.declared.key.Rule.TheVariants.{Depends, Conflicts, Keep, Install, Remove, Upgrade, Unknown}
use Rattle.cudf_job.specs.declared.key.Aspect.{Aspect}
use Rattle.cudf_job.specs.declared.key.Aspect.TheVariants.{Unsatisfied, Many, Lower}
use Rattle.cudf_job.specs.declared.key.Key.{Key}
use Rattle.cudf_job.specs.KeyViews.{key_view}
use Rattle.cudf_job.specs.Keys.{PlainKey, part_place, part_row, rule_row, aspect_row, key_text}
use Rattle.cudf_job.specs.Promises.Keys.{IsWritable, is_fitting, aspect_word}
use Rattle.cudf_job.specs.Working.KeyTexts.{has_no_point}

and_left : (a b : Bool) → (a && b) ≡ true → a ≡ true
and_left true b h = refl
and_left false b h = h

and_right : (a b : Bool) → (a && b) ≡ true → b ≡ true
and_right true b h = h
and_right false b h = absurd (cc h)

abbrev pub is_point : ℕ → Bool
is_point b = b == 46

-- the first point comes after a text without one
pub first_point : (first rest : List ℕ) → has_no_point first ≡ true → position_or_len is_point (first ++ 46 ∷ rest) ≡ length first
first_point [] rest none = refl
first_point (b ∷ first) rest none = by (is_point b) refl (first_point first rest)
  where
    by : (is : Bool) → is_point b ≡ is → (has_no_point first ≡ true → position_or_len is_point (first ++ 46 ∷ rest) ≡ length first)
        → position_or_len is_point (b ∷ (first ++ 46 ∷ rest)) ≡ suc (length first)
    by true here below = absurd (true≢false (sym (and_left (not (is_point b)) (has_no_point first) none) ∙ ap not here))
    by false here below = ap (λ test. cond (not test) (1 + position_or_len is_point (first ++ 46 ∷ rest)) 0) here
        ∙ ap (λ n. 1 + n) (below (and_right (not (is_point b)) (has_no_point first) none)) ∙ omega arith

-- what is before a place and after it
pub before_place : (xs ys : List ℕ) → take (length xs) (xs ++ ys) ≡ xs
before_place [] ys = refl
before_place (x ∷ xs) ys = ap (λ zs. x ∷ zs) (before_place xs ys)

pub after_place : (xs : List ℕ) (y : ℕ) (ys : List ℕ) → drop (suc (length xs)) (xs ++ y ∷ ys) ≡ ys
after_place [] y ys = refl
after_place (x ∷ xs) y ys = after_place xs y ys

-- a text that is cut at its first point
pub cut_first : (text first rest : List ℕ) (r : Option (Bor (List ℕ) × Bor (List ℕ)))
    → MatchOption r (position_or_len is_point text ≡ length text)
    (λ x. (x.0.now ≡ before_first is_point text) × (x.1.now ≡ after_first is_point text) × (position_or_len is_point text < length text))
    → has_no_point first ≡ true → first ++ 46 ∷ rest ≡ text → IsSomeAnd r (λ x. (x.0.now ≡ first) × (x.1.now ≡ rest))
cut_first text first rest None cut none whole =
    let at : position_or_len is_point (first ++ 46 ∷ rest) ≡ length first = first_point first rest none in
    let end : position_or_len is_point (first ++ 46 ∷ rest) ≡ length (first ++ 46 ∷ rest) = ap (position_or_len is_point) whole ∙ cut ∙ ap length (sym whole) in
    let sum : length (first ++ 46 ∷ rest) ≡ length first + suc (length rest) = length-append first (46 ∷ rest) in
    absurd (omega (arith, sum, sym at ∙ end))
cut_first text first rest (Some x) cut none whole =
    let at : position_or_len is_point text ≡ length first = ap (position_or_len is_point) (sym whole) ∙ first_point first rest none in (
      cut.0 ∙ (λ i. take (at i) (sym whole i)) ∙ before_place first (46 ∷ rest),
      cut.1 ∙ (λ i. drop (at i + 1) (sym whole i)) ∙ ap (λ n. drop n (first ++ 46 ∷ rest)) {x = length first + 1} {y = suc (length first)} (omega arith) ∙ after_place first 46 rest,
    )

-- ---- numbers

plain-append : (xs ys : List ℕ) → has_no_point xs ≡ true → has_no_point ys ≡ true → has_no_point (xs ++ ys) ≡ true
plain-append [] ys first second = second
plain-append (x ∷ xs) ys first second = λ i. and_left (not (is_point x)) (has_no_point xs) first i && plain-append xs ys (and_right (not (is_point x)) (has_no_point xs) first) second i

digit_plain : (d : ℕ) → d < 10 → has_no_point ((48 + d) ∷ []) ≡ true
digit_plain d small = ap (λ b. not b && true) (ne_eqb (48 + d) 46 (λ e. omega arith))

pub decimal_plain : (n : ℕ) → n < 2 ^ 64 → has_no_point (decimal n) ≡ true
decimal_plain n small = decimal_by_steps (λ m ds. has_no_point ds ≡ true) digit_plain
    (λ m ds large before. plain-append ds ((48 + m % 10) ∷ []) before (digit_plain (m % 10) (omega arith))) n small

pub decimal_tells : (m n : ℕ) → m < 2 ^ 64 → n < 2 ^ 64 → decimal m ≡ decimal n → m ≡ n
decimal_tells m n small_m small_n same = sym (decimal_is_IsNumeral m small_m).1 ∙ ap (digits_value 10) same ∙ (decimal_is_IsNumeral n small_n).1

-- ---- places with aspects

-- the text of an aspect is a point and its word
pub dotted : (w : Aspect) → (aspect_row (Some w)).1 ≡ 46 ∷ aspect_word w
dotted Unsatisfied = refl
dotted Many = refl
dotted Lower = refl

-- a text with a point has an aspect
pub with_aspect : (text place word : List ℕ) (n : ℕ) (a : Option Aspect) → n < 2 ^ 64 → decimal n ++ (aspect_row a).1 ≡ text
    → ((first rest : List ℕ) → has_no_point first ≡ true → first ++ 46 ∷ rest ≡ text → (place ≡ first) × (word ≡ rest)) → (has_no_point text ≡ true → ⊥)
    → (w : Aspect) × (a ≡ Some w) × (place ≡ decimal n) × (word ≡ aspect_word w)
with_aspect text place word n None small same first none = absurd (none (ap has_no_point (sym same) ∙ ap has_no_point (append-nil (decimal n)) ∙ decimal_plain n small))
with_aspect text place word n (Some w) small same first none =
    let cut = first (decimal n) (aspect_word w) (decimal_plain n small) (ap (λ t. decimal n ++ t) (sym (dotted w)) ∙ same) in
    (w, refl, cut.0, cut.1)

-- and one without has none
pub without_aspect : (text : List ℕ) (n : ℕ) (a : Option Aspect) → n < 2 ^ 64 → decimal n ++ (aspect_row a).1 ≡ text
    → ((first rest : List ℕ) → has_no_point first ≡ true → first ++ 46 ∷ rest ≡ text → ⊥) → (a ≡ None) × (decimal n ≡ text)
without_aspect text n None small same first = (refl, sym (append-nil (decimal n)) ∙ same)
without_aspect text n (Some w) small same first = absurd (first (decimal n) (aspect_word w) (decimal_plain n small) (ap (λ t. decimal n ++ t) (sym (dotted w)) ∙ same))

-- ---- keys

pub part_plain : (p : Part) → part_place p < 2 ^ 64 → has_no_point (part_row p).1 ≡ true
part_plain (Package n) small = decimal_plain n small
part_plain Request small = refl
part_plain Solution small = refl

pub rule_plain : (r : Rule) → has_no_point (rule_row r).1 ≡ true
rule_plain Depends = refl
rule_plain Conflicts = refl
rule_plain Keep = refl
rule_plain Install = refl
rule_plain Remove = refl
rule_plain Upgrade = refl
rule_plain Unknown = refl

-- what follows the part, and after the rule
abbrev pub behind_rule : PlainKey → List ℕ
behind_rule k = decimal k.place ++ (aspect_row k.aspect).1

abbrev pub behind_part : PlainKey → List ℕ
behind_part k = (rule_row k.rule).1 ++ 46 ∷ behind_rule k

grouped : (a b c d : List ℕ) → a ++ 46 ∷ (b ++ 46 ∷ (c ++ d)) ≡ a ++ (46 ∷ []) ++ b ++ (46 ∷ []) ++ c ++ d
grouped a b c d = simp append_assoc

pub text_cut : (k : PlainKey) → (part_row k.part).1 ++ 46 ∷ behind_part k ≡ key_text k
text_cut k = grouped (part_row k.part).1 (rule_row k.rule).1 (decimal k.place) (aspect_row k.aspect).1

-- the first piece of a key's text is its part
pub part_first : {P : Type 0} (k : PlainKey) (text : List ℕ) → IsWritable k → key_text k ≡ text
    → ((first rest : List ℕ) → has_no_point first ≡ true → first ++ 46 ∷ rest ≡ text → P) → P
part_first k text writable same cut = cut (part_row k.part).1 (behind_part k) (part_plain k.part writable.number) (text_cut k ∙ same)

pub part_and_rest : (k : PlainKey) (text part rest : List ℕ) → IsWritable k → key_text k ≡ text
    → ((first behind : List ℕ) → has_no_point first ≡ true → first ++ 46 ∷ behind ≡ text → (part ≡ first) × (rest ≡ behind)) → (part ≡ (part_row k.part).1) × (rest ≡ behind_part k)
part_and_rest k text part rest writable same cut = cut (part_row k.part).1 (behind_part k) (part_plain k.part writable.number) (text_cut k ∙ same)

pub rule_first : {P : Type 0} (k : PlainKey) (text : List ℕ) → text ≡ behind_part k
    → ((first rest : List ℕ) → has_no_point first ≡ true → first ++ 46 ∷ rest ≡ text → P) → P
rule_first k text same cut = cut (rule_row k.rule).1 (behind_rule k) (rule_plain k.rule) (sym same)

pub rule_and_rest : (k : PlainKey) (text rule rest : List ℕ) → text ≡ behind_part k
    → ((first behind : List ℕ) → has_no_point first ≡ true → first ++ 46 ∷ behind ≡ text → (rule ≡ first) × (rest ≡ behind)) → (rule ≡ (rule_row k.rule).1) × (rest ≡ behind_rule k)
rule_and_rest k text rule rest same cut = cut (rule_row k.rule).1 (behind_rule k) (rule_plain k.rule) (sym same)

-- the key of a part, a rule, a place and an aspect is printed as their texts, with points between them
pub text_of : (k : PlainKey) (text part rest rule rest' : List ℕ) → part ++ 46 ∷ rest ≡ text → rule ++ 46 ∷ rest' ≡ rest
    → (part_row k.part).1 ≡ part → (rule_row k.rule).1 ≡ rule → behind_rule k ≡ rest' → key_text k ≡ text
text_of k text part rest rule rest' whole inner part_is rule_is rest_is =
    sym (text_cut k) ∙ (λ i. part_is i ++ 46 ∷ (rule_is i ++ 46 ∷ rest_is i)) ∙ ap (λ xs. part ++ 46 ∷ xs) inner ∙ whole

-- a key that was made where the parts fit
pub printed_if : (fits : Bool) (text : List ℕ) (r : Option Key) (k : PlainKey) → option_map key_view r ≡ (if fits then Some k else None) → key_text k ≡ text → IfSome r (λ key. key_text (key_view key) ≡ text)
printed_if fits text None k made same = tt
printed_if true text (Some key) k made same =
    let is : key_view key ≡ k = cc made in
    ap key_text is ∙ same
printed_if false text (Some key) k made same = absurd (cc made)

pub kept_if : (k found : PlainKey) (r : Option Key) → is_fitting k ≡ true → option_map key_view r ≡ (if is_fitting found then Some found else None)
    → Some found.part ≡ Some k.part → Some found.rule ≡ Some k.rule → ◌≡◌ {A = Option (ℕ × Option Aspect)} (Some (found.place, found.aspect)) (Some (k.place, k.aspect)) → option_map key_view r ≡ Some k
kept_if k found r fits made part_is rule_is rest_is =
    let part : found.part ≡ k.part = cc part_is in
    let rule : found.rule ≡ k.rule = cc rule_is in
    let rest : ◌≡◌ {A = ℕ × Option Aspect} (found.place, found.aspect) (k.place, k.aspect) = cc rest_is in
    let same : found ≡ k = λ i. record { part = part i; rule = rule i; place = (rest i).0; aspect = (rest i).1 } in
    made ∙ ap (λ key. if is_fitting key then Some key else None) same ∙ ap (λ b. if b then Some k else None) fits

pub none_isnt_some : {A : Type 0} (x : A) → None ≡ Some x → ⊥
none_isnt_some x same = cc same

pub some_is : {A : Type 0} (x y : A) → Some x ≡ Some y → x ≡ y
some_is x y same = cc same
