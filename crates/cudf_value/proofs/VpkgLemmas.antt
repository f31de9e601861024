-- A vpkg at the front of a text.
use Rattle.std.proofs.Common.{◌≡◌, ℕ, suc, ◌+◌, ◌-◌, ◌<◌, Bool, true, false, not, ◌&&◌, ◌==◌, List, [], ◌∷◌, ◌++◌, length, take, drop, get_or, cond, Option, Some, None, nat_lt, ◌^◌, inl, inr, refl, sym, ap, ◌∙◌, arith}
use Rattle.std.specs.Prelude.{option_and_then, IfSome}
use Rattle.std.specs.Char.{is_ascii_digit}
use Rattle.std.specs.Str.{all_ascii_digits}
use Rattle.std.specs.Str.Parse.{digits_value, without_leading_plus}
use Rattle.std.specs.List.{list_all, prefix_len, suffix_len}
use Rattle.std.proofs.Math.Seq.{take-append_seam, drop-append_seam}
use Rattle.std.proofs.lemmas.Bool.{true≢false, or_cases, and_from, and_parts, eqb-true, lt-ltb, ltb-true, ne_eqb, false_from_ne_true}
use Rattle.std.proofs.lemmas.List.{append_assoc, append-nil, take-append-drop, get_or_append_left, get_or-append_right, length-append}
use Rattle.std.proofs.lemmas.List.Folds.{list_all-append}
use Rattle.std.proofs.lemmas.List.Sums.{suffix_len_is, AllPass-from_list_all}
use Rattle.cudf_text.specs.Chars.{is_blank, is_blank_text, trim_start, trim_end, trim, is_pkgname_char, is_operator_char, rest_after}
use Rattle.cudf_value.specs.declared.vpkg.Relop.{Relop}
use Rattle.cudf_value.specs.declared.vpkg.Relop.TheVariants.{Eq, Neq, Geq, Gt, Leq, Lt}
use Rattle.cudf_value.specs.Parts.{some_if}
use Rattle.cudf_value.specs.Promises.Laws.{IsReadSpaced}
use Rattle.cudf_value.specs.Words.{is_pkgname}
use Rattle.cudf_value.specs.Numbers.{natural, positive}
use Rattle.cudf_value.specs.Working.Rests.{BeginsWith, BoundBegins, vpkg_after, is_number_below}
use Rattle.cudf_value.specs.Vpkgs.{PlainVpkg, relop_text, relop, vpkg}
use Rattle.cudf_value.specs.Working.Atoms.{ends_atom, is_inside}
use Rattle.cudf_value.proofs.NumberLemmas.{test_tells}
use Rattle.cudf_value.proofs.ReadBack.{prefix_through, cut_at_name}

-- ---- the characters of each class

-- what is so of a space and of a tab is so of each blank
pub blank_is : (test : ℕ → Bool) (x : Bool) → test 32 ≡ x → test 9 ≡ x → (b : ℕ) → is_blank b ≡ true → test b ≡ x
blank_is test x space tab b is = elim (or_cases (b == 32) (b == 9) is) [ inl e ↦ ap test (eqb-true b 32 e) ∙ space | inr e ↦ ap test (eqb-true b 9 e) ∙ tab ]

-- what is so of a comma and of a bar is so of what ends an atom
end_is : (test : ℕ → Bool) (x : Bool) → test 44 ≡ x → test 124 ≡ x → (b : ℕ) → ends_atom b ≡ true → test b ≡ x
end_is test x comma bar b is = elim (or_cases (b == 44) (b == 124) is) [ inl e ↦ ap test (eqb-true b 44 e) ∙ comma | inr e ↦ ap test (eqb-true b 124 e) ∙ bar ]

-- what is so of each of the four is so of a character of an operator
operator_is : (test : ℕ → Bool) (x : Bool) → test 33 ≡ x → test 60 ≡ x → test 61 ≡ x → test 62 ≡ x → (b : ℕ) → is_operator_char b ≡ true → test b ≡ x
operator_is test x bang below equal above b is = by (33 == b) (60 == b) (61 == b) (62 == b) refl refl refl refl
  where
    by : (p q r s : Bool) → (33 == b) ≡ p → (60 == b) ≡ q → (61 == b) ≡ r → (62 == b) ≡ s → test b ≡ x
    by true q r s e f g h = ap test (sym (eqb-true 33 b e)) ∙ bang
    by false true r s e f g h = ap test (sym (eqb-true 60 b f)) ∙ below
    by false false true s e f g h = ap test (sym (eqb-true 61 b g)) ∙ equal
    by false false false true e f g h = ap test (sym (eqb-true 62 b h)) ∙ above
    by false false false false e f g h = let never : false ≡ true = rw (e, f, g, h) at is in absurd cc

-- of two tests that no character passes both
pub apart : (one other : ℕ → Bool) → ((b : ℕ) → one b ≡ true → other b ≡ false) → (b : ℕ) → other b ≡ true → one b ≡ false
apart one other fails b is = false_from_ne_true (one b) (λ h. true≢false (sym is ∙ fails b h))

pub blank_no_name : (b : ℕ) → is_blank b ≡ true → is_pkgname_char b ≡ false
blank_no_name = blank_is is_pkgname_char false refl refl

blank_inside : (b : ℕ) → is_blank b ≡ true → is_inside b ≡ true
blank_inside = blank_is is_inside true refl refl

operator_no_name : (b : ℕ) → is_operator_char b ≡ true → is_pkgname_char b ≡ false
operator_no_name = operator_is is_pkgname_char false refl refl refl refl

blank_no_operator : (b : ℕ) → is_blank b ≡ true → is_operator_char b ≡ false
blank_no_operator = blank_is is_operator_char false refl refl

name_no_blank : (b : ℕ) → is_pkgname_char b ≡ true → is_blank b ≡ false
name_no_blank = apart is_blank is_pkgname_char blank_no_name

name_inside : (b : ℕ) → is_pkgname_char b ≡ true → is_inside b ≡ true
name_inside b is = ap not (apart ends_atom is_pkgname_char (end_is is_pkgname_char false refl refl) b is)

-- ---- runs

one_more : (n : ℕ) → 1 + n ≡ suc n
one_more n = omega arith

-- the run at the front passes
pub run_passes : (test : ℕ → Bool) (text : List ℕ) → list_all test (take (prefix_len test text) text) ≡ true
run_passes test [] = refl
run_passes test (b ∷ text) = by (test b) refl (run_passes test text)
  where
    by : (x : Bool) → test b ≡ x → list_all test (take (prefix_len test text) text) ≡ true → list_all test (take (prefix_len test (b ∷ text)) (b ∷ text)) ≡ true
    by true e h = rw (e, one_more (prefix_len test text)) (rw e h)
    by false e h = rw e refl

-- what passes one test passes another
pub all_pass : (one other : ℕ → Bool) → ((b : ℕ) → one b ≡ true → other b ≡ true) → (text : List ℕ) → list_all one text ≡ true → list_all other text ≡ true
all_pass one other passes [] all = refl
all_pass one other passes (b ∷ text) all =
    let each = and_parts (one b) (list_all one text) all in
    rw (passes b each.0) (all_pass one other passes text each.1)

pub both_pass : (test : ℕ → Bool) (xs ys : List ℕ) → list_all test xs ≡ true → list_all test ys ≡ true → list_all test (xs ++ ys) ≡ true
both_pass test xs ys all more = list_all-append test xs ys ∙ (λ i. all i && more i)

-- the run at the front, and what follows it
abbrev run : (ℕ → Bool) → List ℕ → List ℕ
run test text = take (prefix_len test text) text

run_first : (test : ℕ → Bool) (text : List ℕ) → text ≡ run test text ++ rest_after test text
run_first test text = sym (take-append-drop (prefix_len test text) text)

-- the other way to group parts, where the last is cut into two
regroup : (a t b rest : List ℕ) → t ≡ b ++ rest → a ++ t ≡ (a ++ b) ++ rest
regroup a t b rest is = ap (λ x. a ++ x) is ∙ sym (append_assoc a b rest)

-- the run is put before what is cut off after it
run_cut : (test : ℕ → Bool) (text part rest : List ℕ) → rest_after test text ≡ part ++ rest → text ≡ (run test text ++ part) ++ rest
run_cut test text part rest is = run_first test text ∙ regroup (run test text) (rest_after test text) part rest is

run_inside : (test : ℕ → Bool) → ((b : ℕ) → test b ≡ true → is_inside b ≡ true) → (text part : List ℕ) → list_all is_inside part ≡ true
    → list_all is_inside (run test text ++ part) ≡ true
run_inside test inside text part all = both_pass is_inside (run test text) part (all_pass test is_inside inside (run test text) (run_passes test text)) all

-- no run begins with characters that fail
pub none_passes : (test other : ℕ → Bool) → ((b : ℕ) → other b ≡ true → test b ≡ false) → (xs ys : List ℕ) → 0 < length xs → list_all other xs ≡ true → prefix_len test (xs ++ ys) ≡ 0
none_passes test other fails [] ys some all = absurd (omega (arith, some))
none_passes test other fails (x ∷ xs) ys some all = rw (fails x (and_parts (other x) (list_all other xs) all).0) refl

-- ---- trimming

pub blanks_off : (blanks rest : List ℕ) → list_all is_blank blanks ≡ true → trim_start (blanks ++ rest) ≡ trim_start rest
blanks_off [] rest all = refl
blanks_off (b ∷ blanks) rest all =
    let each = and_parts (is_blank b) (list_all is_blank blanks) all in
    rw (each.0, one_more (prefix_len is_blank (blanks ++ rest))) (blanks_off blanks rest each.1)

-- blanks after a word
end_off : (pre word blanks : List ℕ) → list_all is_pkgname_char word ≡ true → 0 < length word → list_all is_blank blanks ≡ true
    → trim_end ((pre ++ word) ++ blanks) ≡ pre ++ word
end_off pre word blanks all some are_blanks =
    let core = pre ++ word in
    let whole : length (core ++ blanks) ≡ length core + length blanks = length-append core blanks in
    let both : length core ≡ length pre + length word = length-append pre word in
    let blank_run : suffix_len is_blank (core ++ blanks) ≡ length (core ++ blanks) - length core =
    suffix_len_is is_blank (core ++ blanks) (length core) 0 (omega (arith, whole))
    (λ k from to.
    ap is_blank (get_or-append_right core blanks (length core) k 0 refl from)
    ∙ AllPass-from_list_all is_blank blanks are_blanks (k - length core) 0 (omega (arith, whole, from, to)))
    (λ any.
    ap is_blank (get_or_append_left core blanks 0 (length core - 1) (omega (arith, any))
    ∙ get_or-append_right pre word (length pre) (length core - 1) 0 refl (omega (arith, both, some)))
    ∙ name_no_blank (get_or word (length core - 1 - length pre) 0)
    (AllPass-from_list_all is_pkgname_char word all (length core - 1 - length pre) 0 (omega (arith, both, some)))) in
    let left : length (core ++ blanks) - suffix_len is_blank (core ++ blanks) ≡ length core = omega (arith, blank_run, whole) in
    ap (λ n. take n (core ++ blanks)) left ∙ take-append_seam core blanks

trimmed : (before core behind : List ℕ) → list_all is_blank before ≡ true → prefix_len is_blank (core ++ behind) ≡ 0 → trim_end (core ++ behind) ≡ core
    → trim (before ++ (core ++ behind)) ≡ core
trimmed before core behind blank_before none ends =
    ap trim_end (blanks_off before (core ++ behind) blank_before ∙ ap (λ n. drop n (core ++ behind)) none) ∙ ends

-- ---- a name alone

name_is : (name : List ℕ) → list_all is_pkgname_char name ≡ true → 0 < length name → is_pkgname name ≡ true
unfolding is_pkgname
name_is name all some = and_from _ _ (lt-ltb _ _ some) all

abbrev plain : List ℕ → PlainVpkg
plain name = record { name = name; bound = None }

named_vpkg : (name : List ℕ) → list_all is_pkgname_char name ≡ true → 0 < length name → vpkg name ≡ Some (plain name)
named_vpkg name all some = ap vpkg (sym (append-nil name)) ∙ cut_at_name name [] (name_is name all some) refl

pub name_trimmed : (before name behind : List ℕ) → list_all is_blank before ≡ true → list_all is_pkgname_char name ≡ true → 0 < length name → list_all is_blank behind ≡ true
    → trim (before ++ (name ++ behind)) ≡ name
name_trimmed before name behind blank_before all some blank_behind =
    trimmed before name behind blank_before (none_passes is_blank is_pkgname_char name_no_blank name behind some all) (end_off [] name behind all some blank_behind)

named_part : (before name behind : List ℕ) → list_all is_blank before ≡ true → list_all is_pkgname_char name ≡ true → 0 < length name → list_all is_blank behind ≡ true
    → vpkg (trim (before ++ (name ++ behind))) ≡ Some (plain name)
named_part before name behind blank_before all some blank_behind =
    ap vpkg (name_trimmed before name behind blank_before all some blank_behind) ∙ named_vpkg name all some

-- the name at the front of a text, and what follows it and blanks
abbrev pub name_of : List ℕ → List ℕ
name_of text = run is_pkgname_char (trim_start text)

abbrev pub after_name : List ℕ → List ℕ
after_name text = rest_after is_pkgname_char (trim_start text)

-- the text begins with the name, with blanks or none after it, and the rest comes after these
begun_by_name : (text behind rest : List ℕ) → after_name text ≡ behind ++ rest → list_all is_blank behind ≡ true → 0 < length (name_of text) → BeginsWith (plain (name_of text)) text rest
begun_by_name text behind rest cut blank some =
    let start = trim_start text in
    record {
      part = run is_blank text ++ (name_of text ++ behind);
      whole = run_cut is_blank text _ _ (run_cut is_pkgname_char start _ _ cut);
      inside = run_inside is_blank blank_inside text _ (run_inside is_pkgname_char name_inside start _ (all_pass is_blank is_inside blank_inside behind blank));
      value = named_part (run is_blank text) (name_of text) behind (run_passes is_blank text) (run_passes is_pkgname_char start) some blank;
    }

pub named_begins : (text : List ℕ) → 0 < length (name_of text) → BeginsWith (record { name = name_of text; bound = None }) text (trim_start (after_name text))
named_begins text some = begun_by_name text (run is_blank (after_name text)) _ (run_first is_blank (after_name text)) (run_passes is_blank (after_name text)) some

pub named_at_once : (text : List ℕ) → 0 < length (name_of text) → BeginsWith (record { name = name_of text; bound = None }) text (after_name text)
named_at_once text some = begun_by_name text [] _ refl refl some

-- ---- a name with a bound

some_operator : (symbol : List ℕ) (r : Relop) → relop symbol ≡ Some r → 0 < length symbol
some_operator [] r is = absurd cc
some_operator (b ∷ symbol) r is = omega arith

some_digits : (number : List ℕ) (n : ℕ) → positive number ≡ Some n → 0 < length number
unfolding positive natural
some_digits [] n is = absurd cc
some_digits (b ∷ number) n is = omega arith

-- no run begins with blanks, and then with characters that fail
pub blanks_then : (test : ℕ → Bool) → ((b : ℕ) → is_blank b ≡ true → test b ≡ false) → (blanks rest : List ℕ) → list_all is_blank blanks ≡ true → prefix_len test rest ≡ 0
    → prefix_len test (blanks ++ rest) ≡ 0
blanks_then test fails [] rest all none = none
blanks_then test fails (b ∷ blanks) rest all none = none_passes test is_blank fails (b ∷ blanks) rest (omega arith) all

-- the parts of a vpkg with a bound, with the blanks between them
record AreParts (name gap symbol space number : List ℕ) (r : Relop) (n : ℕ) : Type 0 where
  names : list_all is_pkgname_char name ≡ true
  some : 0 < length name
  gap_blank : list_all is_blank gap ≡ true
  operators : list_all is_operator_char symbol ≡ true
  operator : relop symbol ≡ Some r
  space_blank : list_all is_blank space ≡ true
  digits : list_all is_pkgname_char number ≡ true
  value : positive number ≡ Some n

abbrev with_bound : List ℕ → Relop → ℕ → PlainVpkg
with_bound name r n = record { name = name; bound = Some (r, n) }

-- a word is no blanks and no operator
word_fails : (test : ℕ → Bool) → ((b : ℕ) → is_pkgname_char b ≡ true → test b ≡ false) → (word : List ℕ) → list_all is_pkgname_char word ≡ true → 0 < length word
    → prefix_len test word ≡ 0
word_fails test fails word all some = ap (prefix_len test) (sym (append-nil word)) ∙ none_passes test is_pkgname_char fails word [] some all

after_is : (name gap symbol space number : List ℕ) (r : Relop) (n : ℕ) → AreParts name gap symbol space number r n
    → vpkg_after name (gap ++ (symbol ++ (space ++ number))) ≡ Some (with_bound name r n)
after_is name gap symbol space number r n are =
    let tail = symbol ++ (space ++ number) in
    let some_symbol = some_operator symbol r are.operator in
    let some_number = some_digits number n are.value in
    let no_operator : prefix_len is_operator_char (space ++ number) ≡ 0 =
    blanks_then is_operator_char blank_no_operator space number are.space_blank (word_fails is_operator_char (apart is_operator_char is_pkgname_char operator_no_name) number are.digits some_number) in
    let left : trim_start (space ++ number) ≡ number =
    blanks_off space number are.space_blank ∙ ap (λ k. drop k number) (word_fails is_blank name_no_blank number are.digits some_number) in
    let start : trim_start (gap ++ tail) ≡ tail =
    blanks_off gap tail are.gap_blank
    ∙ ap (λ k. drop k tail) (none_passes is_blank is_operator_char (operator_is is_blank false refl refl refl refl) symbol (space ++ number) some_symbol are.operators) in
    rw (
      ne_eqb (length (gap ++ tail)) 0 (λ e. omega (arith, e, length-append gap tail, length-append symbol (space ++ number), some_symbol)),
      start,
      prefix_through is_operator_char symbol (space ++ number) are.operators no_operator,
      take-append_seam symbol (space ++ number),
      drop-append_seam symbol (space ++ number),
      left,
      are.operator,
      are.value,
    )
    refl

bounded_vpkg : (name gap symbol space number : List ℕ) (r : Relop) (n : ℕ) → AreParts name gap symbol space number r n
    → vpkg (name ++ (gap ++ (symbol ++ (space ++ number)))) ≡ Some (with_bound name r n)
bounded_vpkg name gap symbol space number r n are =
    let some_symbol = some_operator symbol r are.operator in
    let tail = symbol ++ (space ++ number) in
    cut_at_name name (gap ++ tail) (name_is name are.names are.some)
    (blanks_then is_pkgname_char blank_no_name gap tail are.gap_blank
    (none_passes is_pkgname_char is_operator_char operator_no_name symbol (space ++ number) some_symbol are.operators))
    ∙ after_is name gap symbol space number r n are

-- ---- a vpkg as it is written, with any blanks

digits_named : (digits : List ℕ) → all_ascii_digits digits ≡ true → list_all is_pkgname_char digits ≡ true
digits_named [] all = refl
digits_named (d ∷ digits) all =
    let each = and_parts (is_ascii_digit d) (all_ascii_digits digits) all in
    let is = each.0 in
    rw is (digits_named digits each.1)

plus_named : (text : List ℕ) → list_all is_pkgname_char (without_leading_plus text) ≡ true → list_all is_pkgname_char text ≡ true
plus_named [] all = refl
plus_named (b ∷ text) all = by (b == 43) refl all
  where
    by : (plus : Bool) → (b == 43) ≡ plus → list_all is_pkgname_char (drop (cond plus 1 0) (b ∷ text)) ≡ true → list_all is_pkgname_char (b ∷ text) ≡ true
    by true is all = ap (λ c. is_pkgname_char c && list_all is_pkgname_char text) (eqb-true b 43 is) ∙ all
    by false is all = all

posint_named : (text : List ℕ) (n : ℕ) → positive text ≡ Some n → list_all is_pkgname_char text ≡ true
unfolding positive natural
posint_named text n is = by (is_number_below (2 ^ 64) digits) refl is
  where
    digits : List ℕ
    digits = without_leading_plus text

    by : (test : Bool) → is_number_below (2 ^ 64) digits ≡ test → option_and_then (λ m. some_if (nat_lt 0 m) m) (some_if test (digits_value 10 digits)) ≡ Some n
        → list_all is_pkgname_char text ≡ true
    by true below is = plus_named text (digits_named digits (test_tells (2 ^ 64) digits below).0)
    by false below is = absurd cc

operator_read : (r : Relop) → relop (relop_text r) ≡ Some r
operator_read Eq = refl
operator_read Neq = refl
operator_read Geq = refl
operator_read Gt = refl
operator_read Leq = refl
operator_read Lt = refl

operator_chars : (r : Relop) → list_all is_operator_char (relop_text r) ≡ true
operator_chars Eq = refl
operator_chars Neq = refl
operator_chars Geq = refl
operator_chars Gt = refl
operator_chars Leq = refl
operator_chars Lt = refl

pub read_spaced : (name gap : List ℕ) (r : Relop) (space number : List ℕ) → is_pkgname name ≡ true → is_blank_text gap ≡ true → is_blank_text space ≡ true
    → IsReadSpaced name gap r space number
unfolding is_pkgname
read_spaced name gap r space number is_name gap_blank space_blank = by (positive number) refl
  where
    symbol : List ℕ
    symbol = relop_text r

    grouped : name ++ gap ++ symbol ++ space ++ number ≡ name ++ (gap ++ (symbol ++ (space ++ number)))
    grouped = append_assoc (name ++ gap ++ symbol) space number ∙ append_assoc (name ++ gap) symbol (space ++ number) ∙ append_assoc name gap (symbol ++ (space ++ number))

    named : (nat_lt 0 (length name) ≡ true) × (list_all is_pkgname_char name ≡ true)
    named = and_parts (nat_lt 0 (length name)) (list_all is_pkgname_char name) is_name

    by : (value : Option ℕ) → positive number ≡ value → IfSome value (λ n. vpkg (name ++ gap ++ symbol ++ space ++ number) ≡ Some (with_bound name r n))
    by None is = tt
    by (Some n) is =
        ap vpkg grouped
        ∙ bounded_vpkg name gap symbol space number r n (record {
          names = named.1;
          some = ltb-true 0 (length name) named.0;
          gap_blank = gap_blank;
          operators = operator_chars r;
          operator = operator_read r;
          space_blank = space_blank;
          digits = posint_named number n is;
          value = is;
        })

-- ---- a part of a list

bounded_part : (before name gap symbol space number behind : List ℕ) (r : Relop) (n : ℕ) → AreParts name gap symbol space number r n
    → list_all is_blank before ≡ true → list_all is_blank behind ≡ true
    → vpkg (trim (before ++ (name ++ (gap ++ (symbol ++ (space ++ (number ++ behind))))))) ≡ Some (with_bound name r n)
bounded_part before name gap symbol space number behind r n are blank_before blank_behind =
    let core = name ++ (gap ++ (symbol ++ (space ++ number))) in
    let pre = name ++ (gap ++ (symbol ++ space)) in
    let cut : name ++ (gap ++ (symbol ++ (space ++ (number ++ behind)))) ≡ core ++ behind =
    regroup name _ _ behind (regroup gap _ _ behind (regroup symbol _ _ behind (regroup space (number ++ behind) number behind refl))) in
    let ends : core ≡ pre ++ number = regroup name _ _ number (regroup gap _ _ number (regroup symbol (space ++ number) space number refl)) in
    let end : trim_end (core ++ behind) ≡ core =
    ap (λ t. trim_end (t ++ behind)) ends ∙ end_off pre number behind are.digits (some_digits number n are.value) blank_behind ∙ sym ends in
    let start : prefix_len is_blank (core ++ behind) ≡ 0 =
    ap (prefix_len is_blank) (sym cut) ∙ none_passes is_blank is_pkgname_char name_no_blank name _ are.some are.names in
    ap (λ t. vpkg (trim (before ++ t))) cut
    ∙ ap vpkg (trimmed before core behind blank_before start end)
    ∙ bounded_vpkg name gap symbol space number r n are

pub bounded_begins : (text rest : List ℕ) (r : Relop) (n : ℕ) → 0 < length (name_of text) → BoundBegins r n (trim_start (after_name text)) rest
    → BeginsWith (record { name = name_of text; bound = Some (r, n) }) text rest
bounded_begins text rest r n some bound =
    let start = trim_start text in
    let tail = after_name text in
    let operator = trim_start tail in
    let space = rest_after is_operator_char operator in
    let number = trim_start space in
    let behind = rest_after is_pkgname_char number in
    record {
      part = run is_blank text ++ (name_of text ++ (run is_blank tail ++ (run is_operator_char operator ++ (run is_blank space ++ (run is_pkgname_char number ++ run is_blank behind)))));
      whole = run_cut is_blank text _ _ (run_cut is_pkgname_char start _ _ (run_cut is_blank tail _ _
          (run_cut is_operator_char operator _ _ (run_cut is_blank space _ _ (run_cut is_pkgname_char number _ _
          (run_first is_blank behind ∙ ap (λ t. run is_blank behind ++ t) (sym bound.behind)))))));
      inside = run_inside is_blank blank_inside text _ (run_inside is_pkgname_char name_inside start _ (run_inside is_blank blank_inside tail _
          (run_inside is_operator_char (operator_is is_inside true refl refl refl refl) operator _ (run_inside is_blank blank_inside space _ (run_inside is_pkgname_char name_inside number _
          (all_pass is_blank is_inside blank_inside (run is_blank behind) (run_passes is_blank behind)))))));
      value = bounded_part (run is_blank text) (name_of text) (run is_blank tail) (run is_operator_char operator) (run is_blank space) (run is_pkgname_char number) (run is_blank behind) r n
          (record {
            names = run_passes is_pkgname_char start;
            some = some;
            gap_blank = run_passes is_blank tail;
            operators = run_passes is_operator_char operator;
            operator = bound.operator;
            space_blank = run_passes is_blank space;
            digits = run_passes is_pkgname_char number;
            value = bound.number;
          })
          (run_passes is_blank text) (run_passes is_blank behind);
    }

pub some_run : (name : List ℕ) → false ≡ (length name == 0) → 0 < length name
some_run [] none = absurd cc
some_run (b ∷ name) some = omega arith
