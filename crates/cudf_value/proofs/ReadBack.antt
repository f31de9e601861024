-- What is printed of a vpkg is read back as it.
use Rattle.std.proofs.Common.{◌≡◌, ℕ, ◌^◌, ◌<◌, Bool, true, false, ◌==◌, nat_lt, List, [], ◌∷◌, ◌++◌, length, get_or, Option, Some, None, decimal, codes, refl, ap, ◌∙◌, arith}
use Rattle.std.specs.List.{prefix_len, list_all}
use Rattle.std.specs.Str.Parse.{digits_value}
use Rattle.std.proofs.Math.Seq.{take-append_seam, drop-append_seam}
use Rattle.std.proofs.lemmas.Bool.{and_parts, lt-ltb, ltb-true, ne_eqb}
use Rattle.std.proofs.lemmas.Fmt.{first_decimal, digits_decimal, digits_value-decimal, decimal_nonempty}
use Rattle.cudf_value.specs.declared.vpkg.Relop.{Relop}
use Rattle.cudf_value.specs.declared.vpkg.Relop.TheVariants.{Eq, Neq, Geq, Gt, Leq, Lt}
use Rattle.cudf_text.specs.Chars.{is_blank, trim_start, is_pkgname_char}
use Rattle.cudf_value.specs.Words.{is_pkgname}
use Rattle.cudf_value.specs.Numbers.{natural, positive}
use Rattle.cudf_value.specs.Vpkgs.{vpkg}
use Rattle.cudf_value.specs.Working.Rests.{vpkg_after}
use Rattle.cudf_value.specs.Printing.{bound_text}
use Rattle.cudf_value.specs.Promises.Laws.{IsPosintBound, IsReadBack}
use Rattle.cudf_value.proofs.NumberLemmas.{own, test_true}

-- the run at the front ends where the first list does
pub prefix_through : {X : Type 0} (test : X → Bool) (xs ys : List X) → list_all test xs ≡ true → prefix_len test ys ≡ 0 → prefix_len test (xs ++ ys) ≡ length xs
prefix_through test [] ys all none = none
prefix_through test (x ∷ xs) ys all none =
    let each = and_parts (test x) (list_all test xs) all in
    rw each.0 (omega (arith, prefix_through test xs ys each.1 none))

-- no run begins at an element that fails
no_prefix : (test : ℕ → Bool) (xs : List ℕ) → 0 < length xs → test (get_or xs 0 0) ≡ false → prefix_len test xs ≡ 0
no_prefix test [] some fails = absurd (omega arith)
no_prefix test (x ∷ xs) some fails = rw fails refl

-- a vpkg is cut after its name
pub cut_at_name : (name rest : List ℕ) → is_pkgname name ≡ true → prefix_len is_pkgname_char rest ≡ 0 → vpkg (name ++ rest) ≡ vpkg_after name rest
unfolding vpkg is_pkgname
cut_at_name name rest is_name none =
    let parts = and_parts (nat_lt 0 (length name)) (list_all is_pkgname_char name) is_name in
    rw (
      prefix_through is_pkgname_char name rest parts.1 none,
      take-append_seam name rest,
      drop-append_seam name rest,
      ne_eqb (length name) 0 (λ e. omega (arith, ltb-true 0 (length name) parts.0)),
    )
    refl

not_blank : (b : ℕ) → 48 < b → is_blank b ≡ false
not_blank b above = rw (ne_eqb b 32 (λ e. omega arith), ne_eqb b 9 (λ e. omega arith)) refl

-- a number without its space
space_back : (n : ℕ) → 0 < n → n < 2 ^ 64 → trim_start (codes " " ++ decimal n) ≡ decimal n
space_back n above below =
    rw (no_prefix is_blank (decimal n) (decimal_nonempty n below) (not_blank (get_or (decimal n) 0 0) (first_decimal n above below))) refl

natural_back : (n : ℕ) → 0 < n → n < 2 ^ 64 → natural (decimal n) ≡ Some n
unfolding natural
natural_back n above below =
    let first : 48 < get_or (decimal n) 0 0 = first_decimal n above below in
    let value : digits_value 10 (decimal n) ≡ n = digits_value-decimal own n below in
    rw (
      ne_eqb (get_or (decimal n) 0 0) 43 (λ e. omega arith),
      test_true (2 ^ 64) (decimal n) (digits_decimal own n below, decimal_nonempty n below, omega arith),
    )
    (ap Some value)

positive_back : (n : ℕ) → 0 < n → n < 2 ^ 64 → positive (decimal n) ≡ Some n
unfolding positive
positive_back n above below = rw (natural_back n above below, lt-ltb 0 n above) refl

-- the digits of a posint, with the space before them
number_back : (n : ℕ) → 0 < n → n < 2 ^ 64 → positive (trim_start (codes " " ++ decimal n)) ≡ Some n
number_back n above below = ap positive (space_back n above below) ∙ positive_back n above below

some_byte : (b : ℕ) (text : List ℕ) → (length (b ∷ text) == 0) ≡ false
some_byte b text = ne_eqb (length (b ∷ text)) 0 (λ e. omega arith)

bound_back : (name : List ℕ) (r : Relop) (n : ℕ) → 0 < n → n < 2 ^ 64
    → vpkg_after name (bound_text (Some (r, n))) ≡ Some (record { name = name; bound = Some (r, n) })
bound_back name Eq n above below = rw (some_byte 32 (61 ∷ 32 ∷ decimal n), number_back n above below) refl
bound_back name Neq n above below = rw (some_byte 32 (33 ∷ 61 ∷ 32 ∷ decimal n), number_back n above below) refl
bound_back name Geq n above below = rw (some_byte 32 (62 ∷ 61 ∷ 32 ∷ decimal n), number_back n above below) refl
bound_back name Gt n above below = rw (some_byte 32 (62 ∷ 32 ∷ decimal n), number_back n above below) refl
bound_back name Leq n above below = rw (some_byte 32 (60 ∷ 61 ∷ 32 ∷ decimal n), number_back n above below) refl
bound_back name Lt n above below = rw (some_byte 32 (60 ∷ 32 ∷ decimal n), number_back n above below) refl

pub printed_back : (name : List ℕ) (bound : Option (Relop × ℕ)) → is_pkgname name ≡ true → IsPosintBound bound → IsReadBack name bound
printed_back name None is_name tt = cut_at_name name [] is_name refl
printed_back name (Some (r, n)) is_name posint = cut_at_name name (bound_text (Some (r, n))) is_name refl ∙ bound_back name r n posint.0 posint.1
