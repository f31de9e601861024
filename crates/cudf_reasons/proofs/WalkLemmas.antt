-- What is new, and what is reported after the others.
use Rattle.std.proofs.Common.{◌≡◌, Bool, true, false, not, ◌||◌, List, [], ◌∷◌, ◌++◌, refl, sym, ap, ◌∙◌}
use Rattle.std.specs.Prelude.{All}
use Rattle.std.specs.List.{list_any}
use Rattle.std.proofs.lemmas.Bool.{not-true, not_from_true, not_from_false, or_parts, or_left, or_right, cond-true, cond-false, true≢false}
use Rattle.std.proofs.lemmas.List.Elements.{All-cons, All-head, All-nil, All-tail}
use Rattle.std.proofs.lemmas.List.Folds.{list_any-append}
use Rattle.cudf_reasons.specs.Reasons.{PlainReason, is_new, same_key, with_reason, with_reasons}
use Rattle.cudf_reasons.proofs.KeyOrderLemmas.{same_itself}

abbrev Reasons : Type 0
Reasons = List PlainReason

-- ---- what is new once one more is reported

abbrev is_earlier : PlainReason → PlainReason → Bool
is_earlier reason earlier = same_key earlier.key reason.key

pub new_push : (told : Reasons) (t r : PlainReason) → is_new (told ++ t ∷ []) r ≡ not (list_any (is_earlier r) told || (same_key t.key r.key || false))
new_push told t r = ap not (list_any-append (is_earlier r) told (t ∷ []))

-- what is new then was new before
pub new_before : (told : Reasons) (t r : PlainReason) → is_new (told ++ t ∷ []) r ≡ true → is_new told r ≡ true
new_before told t r new =
    not_from_false (list_any (is_earlier r) told) (or_parts (list_any (is_earlier r) told) (same_key t.key r.key || false) (not-true _ (sym (new_push told t r) ∙ new))).0

-- it isn't new itself then
pub told_itself : (told : Reasons) (t : PlainReason) → is_new (told ++ t ∷ []) t ≡ false
told_itself told t =
    new_push told t t ∙ not_from_true _ (or_right (list_any (is_earlier t) told) (same_key t.key t.key || false) (or_left (same_key t.key t.key) false (same_itself t.key)))

-- others are as new as before
pub new_as_before : (told : Reasons) (t r : PlainReason) → same_key t.key r.key ≡ false → is_new (told ++ t ∷ []) r ≡ is_new told r
new_as_before told t r other = new_push told t r ∙ ap not (ap (λ b. list_any (is_earlier r) told || (b || false)) other ∙ or_none (list_any (is_earlier r) told))
  where
    or_none : (b : Bool) → (b || (false || false)) ≡ b
    or_none true = refl
    or_none false = refl

-- what was reported stays so
old_stays : (told : Reasons) (t r : PlainReason) → is_new told r ≡ false → is_new (told ++ t ∷ []) r ≡ false
old_stays told t r old = by (is_new (told ++ t ∷ []) r) refl
  where
    by : (b : Bool) → is_new (told ++ t ∷ []) r ≡ b → b ≡ false
    by true e = absurd (true≢false (sym (new_before told t r e) ∙ old))
    by false e = refl

-- ---- one more, unless it was reported

pub with_new : (told : Reasons) (r : PlainReason) → is_new told r ≡ true → with_reason told r ≡ told ++ r ∷ []
with_new told r new = cond-true (is_new told r) (told ++ r ∷ []) told new

pub with_old : (told : Reasons) (r : PlainReason) → is_new told r ≡ false → with_reason told r ≡ told
with_old told r old = cond-false (is_new told r) (told ++ r ∷ []) told old

with_itself : (told : Reasons) (r : PlainReason) → is_new (with_reason told r) r ≡ false
with_itself told r = by (is_new told r) refl
  where
    by : (b : Bool) → is_new told r ≡ b → is_new (with_reason told r) r ≡ false
    by true new = ap (λ t. is_new t r) (with_new told r new) ∙ told_itself told r
    by false old = ap (λ t. is_new t r) (with_old told r old) ∙ old

pub old_with : (told : Reasons) (t r : PlainReason) → is_new told r ≡ false → is_new (with_reason told t) r ≡ false
old_with told t r old = by (is_new told t) refl
  where
    by : (b : Bool) → is_new told t ≡ b → is_new (with_reason told t) r ≡ false
    by true new = ap (λ ts. is_new ts r) (with_new told t new) ∙ old_stays told t r old
    by false was = ap (λ ts. is_new ts r) (with_old told t was) ∙ old

-- ---- several

pub old_with_all : (told xs : Reasons) (r : PlainReason) → is_new told r ≡ false → is_new (with_reasons told xs) r ≡ false
old_with_all told [] r old = old
old_with_all told (x ∷ xs) r old = old_with_all (with_reason told x) xs r (old_with told x r old)

-- all of them are reported then
pub all_told : (told xs : Reasons) → All (λ r. is_new (with_reasons told xs) r ≡ false) xs
all_told told [] = All-nil (λ r. is_new told r ≡ false)
all_told told (x ∷ xs) =
    All-cons (λ r. is_new (with_reasons (with_reason told x) xs) r ≡ false) x xs (old_with_all (with_reason told x) xs x (with_itself told x)) (all_told (with_reason told x) xs)

-- nothing changes where all were reported
pub none_new : (told xs : Reasons) → All (λ r. is_new told r ≡ false) xs → with_reasons told xs ≡ told
none_new told [] old = refl
none_new told (x ∷ xs) old =
    ap (λ t. with_reasons t xs) (with_old told x (All-head (λ r. is_new told r ≡ false) x xs old)) ∙ none_new told xs (All-tail (λ r. is_new told r ≡ false) x xs old)
