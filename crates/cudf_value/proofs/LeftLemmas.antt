-- What is left of a list while it is gone through.
use Rattle.std.proofs.Common.{◌≡◌, ℕ, suc, ◌==◌, ◌+◌, ◌<◌, ◌≤◌, ◌^◌, Bool, true, false, List, [], ◌∷◌, map, cond, length, Option, Some, None, is_some, option_map, unwrap_or, refl, sym, ap, ◌∙◌, arith}
use Rattle.std.proofs.lemmas.Grind.{common_steps}
use Rattle.std.specs.List.{before_first}
use Rattle.std.proofs.lemmas.List.Elements.{All-from_get_or}
use Rattle.std.proofs.lemmas.List.Sums.{count_by-le-length, fails_before_first}
use Rattle.std.specs.Prelude.{count_by}
use Rattle.std.proofs.lemmas.List.{length-map}
use Rattle.std.proofs.lemmas.List.Splits.{slice_split_none, length-slice_split}
use Rattle.std.specs.Prelude.{option_and_then}
use Rattle.std.specs.Str.{byte}
use Rattle.std.proofs.lemmas.Option.{cond_some}
use Rattle.cudf_text.specs.Chars.{trim}
use Rattle.cudf_value.specs.Parts.{all_some, parts, trimmed, comma_list, some_if}
use Rattle.cudf_value.specs.Vpkgs.{PlainVpkg, vpkg, veqpkg, is_exact}
use Rattle.cudf_value.specs.Formulas.{clause, formula, vpkglist, veqpkglist}

-- the first part has a value where each has one
pub first_sound : {A : Type 0} (read : List ℕ → Option A) (first : List ℕ) (others : List (List ℕ)) → is_some (all_some (map read (first ∷ others))) ≡ true
    → is_some (read first) ≡ true
first_sound {A = A} read first others sound = by (read first) sound
  where
    by : (value : Option A) → is_some (all_some (value ∷ map read others)) ≡ true → is_some value ≡ true
    by None sound = absurd cc
    by (Some value) sound = refl

-- what is before the first separator is one part
pub before_alone : (separator : ℕ) (text : List ℕ) → parts separator (before_first (λ b. b == separator) text) ≡ before_first (λ b. b == separator) text ∷ []
before_alone separator text =
    slice_split_none (λ b. b == separator) (before_first (λ b. b == separator) text)
    (All-from_get_or (λ b. (b == separator) ≡ false) (before_first (λ b. b == separator) text) 0
    (λ i inside. let fails = fails_before_first (λ b. b == separator) text i 0 (grind (arith, common_steps)) in grind (arith, common_steps)))

-- ---- a list of veqpkgs is one of vpkgs

-- where each text that the one reads is read so by the other, all are
all-read : {A : Type 0} (f g : List ℕ → Option A) (texts : List (List ℕ)) (all : List A) → ((text : List ℕ) (v : A) → f text ≡ Some v → g text ≡ Some v)
    → all_some (map f texts) ≡ Some all → all_some (map g texts) ≡ Some all
all-read f g [] all each is = is
all-read {A = A} f g (text ∷ texts) all each is = by (f text) (each text) (λ vs same. all-read f g texts vs each same) is
  where
    within : (v : A) (xs : Option (List A)) → ((vs : List A) → xs ≡ Some vs → all_some (map g texts) ≡ Some vs) → option_map (λ vs. v ∷ vs) xs ≡ Some all
        → option_map (λ vs. v ∷ vs) (all_some (map g texts)) ≡ Some all
    within v None others is = absurd cc
    within v (Some vs) others is = ap (option_map (λ xs. v ∷ xs)) (others vs refl) ∙ is

    by : (x : Option A) → ((v : A) → x ≡ Some v → g text ≡ Some v) → ((vs : List A) → all_some (map f texts) ≡ Some vs → all_some (map g texts) ≡ Some vs)
        → all_some (x ∷ map f texts) ≡ Some all → all_some (g text ∷ map g texts) ≡ Some all
    by None one others is = absurd cc
    by (Some v) one others is = rw (one v refl) (within v (all_some (map f texts)) others is)

exact-is : (text : List ℕ) (v : PlainVpkg) → trimmed veqpkg text ≡ Some v → trimmed vpkg text ≡ Some v
unfolding veqpkg
exact-is text v is = by (vpkg (trim text)) is
  where
    by : (x : Option PlainVpkg) → option_and_then (λ w. some_if (is_exact w.bound) w) x ≡ Some v → x ≡ Some v
    by None is = absurd cc
    by (Some w) is = ap Some (cond_some (is_exact w.bound) w v is).1

same-list : (text : List ℕ) (vs : List PlainVpkg) → veqpkglist text ≡ Some vs → vpkglist text ≡ Some vs
unfolding vpkglist veqpkglist
same-list text vs is = by (length text == 0) is
  where
    by : (b : Bool) → cond b (Some []) (all_some (map (trimmed veqpkg) (parts (byte ",") text))) ≡ Some vs
        → cond b (Some []) (all_some (map (trimmed vpkg) (parts (byte ",") text))) ≡ Some vs
    by true is = is
    by false is = all-read (trimmed veqpkg) (trimmed vpkg) (parts (byte ",") text) vs exact-is is

pub exact_same : (text : List ℕ) → is_some (veqpkglist text) ≡ true → Some (unwrap_or (vpkglist text) []) ≡ veqpkglist text
exact_same text sound = by (veqpkglist text) sound (same-list text)
  where
    by : (all : Option (List PlainVpkg)) → is_some all ≡ true → ((vs : List PlainVpkg) → all ≡ Some vs → vpkglist text ≡ Some vs) → Some (unwrap_or (vpkglist text) []) ≡ all
    by None sound same = absurd cc
    by (Some vs) sound same = ap (λ all. Some (unwrap_or all [])) (same vs refl)

pub exact_sound : (text : List ℕ) → is_some (veqpkglist text) ≡ true → is_some (vpkglist text) ≡ true
exact_sound text sound = by (veqpkglist text) sound (same-list text)
  where
    by : (all : Option (List PlainVpkg)) → is_some all ≡ true → ((vs : List PlainVpkg) → all ≡ Some vs → vpkglist text ≡ Some vs) → is_some (vpkglist text) ≡ true
    by None sound same = absurd cc
    by (Some vs) sound same = ap is_some (same vs refl)

-- ---- how many there are

all-length : {A : Type 0} (values : List (Option A)) → is_some (all_some values) ≡ true → length (unwrap_or (all_some values) []) ≡ length values
all-length [] sound = refl
all-length (None ∷ values) sound = absurd cc
all-length {A = A} (Some value ∷ values) sound = by (all_some values) (all-length values) sound
  where
    by : (all : Option (List A)) → (is_some all ≡ true → length (unwrap_or all []) ≡ length values) → is_some (option_map (λ vs. value ∷ vs) all) ≡ true
        → length (unwrap_or (option_map (λ vs. value ∷ vs) all) []) ≡ length (Some value ∷ values)
    by None others sound = absurd cc
    by (Some vs) others sound = ap suc (others refl)

-- one more than commas
pub list_length : (text : List ℕ) → (length text == 0) ≡ false → is_some (vpkglist text) ≡ true → count_by (λ b. b == byte ",") text + 1 ≡ length (unwrap_or (vpkglist text) [])
unfolding vpkglist
list_length text filled sound = by (length text == 0) filled sound
  where
    by : (b : Bool) → b ≡ false → is_some (cond b (Some []) (all_some (map (trimmed vpkg) (parts (byte ",") text)))) ≡ true
        → count_by (λ b. b == byte ",") text + 1 ≡ length (unwrap_or (cond b (Some []) (all_some (map (trimmed vpkg) (parts (byte ",") text)))) [])
    by true filled sound = absurd cc
    by false filled sound = sym (all-length (map (trimmed vpkg) (parts (byte ",") text)) sound
        ∙ length-map (parts (byte ",") text) (trimmed vpkg) ∙ length-slice_split (λ b. b == byte ",") text)

-- no more than bytes, and one
comma-few : {A : Type 0} (read : List ℕ → Option A) (text : List ℕ) → is_some (comma_list read text) ≡ true → length (unwrap_or (comma_list read text) []) ≤ length text + 1
comma-few read text sound = by (length text == 0) sound
  where
    by : (b : Bool) → is_some (cond b (Some []) (all_some (map read (parts (byte ",") text)))) ≡ true
        → length (unwrap_or (cond b (Some []) (all_some (map read (parts (byte ",") text)))) []) ≤ length text + 1
    by true sound = omega arith
    by false sound =
        omega (arith, all-length (map read (parts (byte ",") text)) sound, length-map (parts (byte ",") text) read, length-slice_split (λ b. b == byte ",") text, count_by-le-length (λ b. b == byte ",") text)

pub formula_few : (text : List ℕ) → is_some (formula text) ≡ true → length text < 2 ^ 63 → length (unwrap_or (formula text) []) ≤ 2 ^ 63
unfolding formula
formula_few text sound small = omega (arith, comma-few clause text sound)

pub list_few : (text : List ℕ) → is_some (vpkglist text) ≡ true → length text < 2 ^ 63 → length (unwrap_or (vpkglist text) []) ≤ 2 ^ 63
unfolding vpkglist
list_few text sound small = omega (arith, comma-few (trimmed vpkg) text sound)
