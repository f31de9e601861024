-- Texts of keys tell the keys.
use Rattle.std.proofs.Common.{◌≡◌, ℕ, suc, ◌<◌, ◌^◌, true, false, not, ◌&&◌, List, [], ◌∷◌, ◌++◌, length, get_or, take, drop, Option, Some, None, refl, ap, sym, ◌∙◌, arith, decimal, bytes_eq, codes, if◌then◌else◌}
use Rattle.std.proofs.lemmas.Bool.{true≢false}
use Rattle.std.proofs.lemmas.List.{append-nil}
use Rattle.std.specs.List.{position_or_len}
use Rattle.cudf_job.specs.declared.key.Part.{Part}
use Rattle.cudf_job.specs.declared.key.Part.TheVariants.{Package, Request, Solution}
use Rattle.cudf_job.specs.declared.key.Rule.{Rule}
use Rattle.cudf_job.specs.declared.key.Rule.TheVariants.{Depends, Conflicts, Keep, Install, Remove, Upgrade, Unknown}
use Rattle.cudf_job.specs.declared.key.Aspect.{Aspect}
use Rattle.cudf_job.specs.declared.key.Aspect.TheVariants.{Unsatisfied, Many, Lower}
use Rattle.cudf_job.specs.Keys.{part_place, part_row, rule_row, aspect_row}
use Rattle.cudf_job.specs.Promises.Keys.{aspect_word}
use Rattle.cudf_referee.specs.Promises.Laws.{TextsTellKeys}
use Rattle.cudf_job.specs.Working.KeyTexts.{has_no_point}
use Rattle.cudf_job.proofs.KeyTextLemmas.{is_point, first_point, before_place, after_place, decimal_plain, decimal_tells, dotted, part_plain, rule_plain, behind_rule, behind_part, text_cut}
use Rattle.cudf_referee.proofs.ListLemmas.{and_false}

-- a text is cut at its first point in one way
cut_tells : (x y xs ys : List ℕ) → has_no_point x ≡ true → has_no_point y ≡ true → x ++ 46 ∷ xs ≡ y ++ 46 ∷ ys → (x ≡ y) × (xs ≡ ys)
cut_tells x y xs ys plain_x plain_y same =
    let long : length x ≡ length y = sym (first_point x xs plain_x) ∙ ap (position_or_len is_point) same ∙ first_point y ys plain_y in (
      sym (before_place x (46 ∷ xs)) ∙ (λ i. take (long i) (same i)) ∙ before_place y (46 ∷ ys),
      sym (after_place x 46 xs) ∙ (λ i. drop (suc (long i)) (same i)) ∙ after_place y 46 ys,
    )

-- a text with a point
pointed : (xs ys : List ℕ) → has_no_point (xs ++ 46 ∷ ys) ≡ false
pointed [] ys = refl
pointed (x ∷ xs) ys = ap (λ b. not (is_point x) && b) (pointed xs ys) ∙ and_false (not (is_point x))

part_tells : (p q : Part) → part_place p < 2 ^ 64 → part_place q < 2 ^ 64 → (part_row p).1 ≡ (part_row q).1 → p ≡ q
part_tells (Package m) (Package n) small_m small_n same = ap Package (decimal_tells m n small_m small_n (ap (drop 1) same))
part_tells (Package m) Request small_m small_n same = let first : ◌≡◌ {A = ℕ} 112 114 = ap (λ t. get_or t 0 0) same in absurd (omega arith)
part_tells (Package m) Solution small_m small_n same = let first : ◌≡◌ {A = ℕ} 112 115 = ap (λ t. get_or t 0 0) same in absurd (omega arith)
part_tells Request (Package n) small_m small_n same = let first : ◌≡◌ {A = ℕ} 114 112 = ap (λ t. get_or t 0 0) same in absurd (omega arith)
part_tells Request Request small_m small_n same = refl
part_tells Request Solution small_m small_n same = let first : ◌≡◌ {A = ℕ} 114 115 = ap (λ t. get_or t 0 0) same in absurd (omega arith)
part_tells Solution (Package n) small_m small_n same = let first : ◌≡◌ {A = ℕ} 115 112 = ap (λ t. get_or t 0 0) same in absurd (omega arith)
part_tells Solution Request small_m small_n same = let first : ◌≡◌ {A = ℕ} 115 114 = ap (λ t. get_or t 0 0) same in absurd (omega arith)
part_tells Solution Solution small_m small_n same = refl

-- the rule and the aspect of a word
rule_of : List ℕ → Rule
rule_of text =
    if bytes_eq text (codes "depends") then Depends else if bytes_eq text (codes "conflicts") then Conflicts
    else if bytes_eq text (codes "keep") then Keep else if bytes_eq text (codes "install") then Install
    else if bytes_eq text (codes "remove") then Remove else if bytes_eq text (codes "upgrade") then Upgrade else Unknown

rule_is : (r : Rule) → rule_of (rule_row r).1 ≡ r
unfolding rule_of
rule_is Depends = refl
rule_is Conflicts = refl
rule_is Keep = refl
rule_is Install = refl
rule_is Remove = refl
rule_is Upgrade = refl
rule_is Unknown = refl

aspect_of : List ℕ → Aspect
aspect_of text = if bytes_eq text (codes "unsatisfied") then Unsatisfied else if bytes_eq text (codes "many") then Many else Lower

aspect_is : (a : Aspect) → aspect_of (aspect_word a) ≡ a
unfolding aspect_of
aspect_is Unsatisfied = refl
aspect_is Many = refl
aspect_is Lower = refl

rest_tells : (m n : ℕ) (a b : Option Aspect) → m < 2 ^ 64 → n < 2 ^ 64 → decimal m ++ (aspect_row a).1 ≡ decimal n ++ (aspect_row b).1 → (m ≡ n) × (a ≡ b)
rest_tells m n None None small_m small_n same = (decimal_tells m n small_m small_n (sym (append-nil (decimal m)) ∙ same ∙ append-nil (decimal n)), refl)
rest_tells m n None (Some b) small_m small_n same =
    absurd (true≢false (sym (ap has_no_point (append-nil (decimal m)) ∙ decimal_plain m small_m) ∙ ap has_no_point (same ∙ ap (λ t. decimal n ++ t) (dotted b)) ∙ pointed (decimal n) (aspect_word b)))
rest_tells m n (Some a) None small_m small_n same =
    absurd (true≢false (sym (ap has_no_point (append-nil (decimal n)) ∙ decimal_plain n small_n) ∙ ap has_no_point (sym same ∙ ap (λ t. decimal m ++ t) (dotted a)) ∙ pointed (decimal m) (aspect_word a)))
rest_tells m n (Some a) (Some b) small_m small_n same =
    let cut = cut_tells (decimal m) (decimal n) (aspect_word a) (aspect_word b) (decimal_plain m small_m) (decimal_plain n small_n)
    (ap (λ t. decimal m ++ t) (sym (dotted a)) ∙ same ∙ ap (λ t. decimal n ++ t) (dotted b)) in
    (decimal_tells m n small_m small_n cut.0, ap Some (sym (aspect_is a) ∙ ap aspect_of cut.1 ∙ aspect_is b))

pub texts_tell_keys : TextsTellKeys
texts_tell_keys a b wa wb same =
    let front = cut_tells (part_row a.part).1 (part_row b.part).1 (behind_part a) (behind_part b) (part_plain a.part wa.number) (part_plain b.part wb.number)
    (text_cut a ∙ same ∙ sym (text_cut b)) in
    let inner = cut_tells (rule_row a.rule).1 (rule_row b.rule).1 (behind_rule a) (behind_rule b) (rule_plain a.rule) (rule_plain b.rule) front.1 in
    let part = part_tells a.part b.part wa.number wb.number front.0 in
    let rule : a.rule ≡ b.rule = sym (rule_is a.rule) ∙ ap rule_of inner.0 ∙ rule_is b.rule in
    let rest = rest_tells a.place b.place a.aspect b.aspect wa.place wb.place inner.1 in
    λ i. record { part = part i; rule = rule i; place = rest.0 i; aspect = rest.1 i }
