-- What follows where a problem has no fault.
use Rattle.std.proofs.Common.{◌≡◌, ◌≢◌, ℕ, nat_eq, Bool, true, false, not, ◌||◌, ◌&&◌, List, [], ◌∷◌, ◌++◌, map, length, get_or, max, Option, None, Some, is_some, is_none, find, filter, filter_map, count_by, AllPairs, refl, sym, ap, ◌∙◌, arith, if◌then◌else◌, option_map, option_and_then, option_to_list, bytes_eq, codes}
use Rattle.std.specs.Option.{option_zip}
use Rattle.std.specs.Prelude.{slice_get}
use Rattle.std.proofs.Math.Bool.{not-not, or-false}
use Rattle.std.proofs.lemmas.Bool.{true≢false, and_parts, and_from, not-true, not-false, not_from_false, eq-eqb}
use Rattle.std.proofs.lemmas.List.{append-nil, get_or-map, length-map}
use Rattle.std.proofs.lemmas.List.Elements.{filter_map-append}
use Rattle.std.proofs.lemmas.List.Folds.{list_any-append}
use Rattle.std.proofs.lemmas.List.Sums.{length-filter}
use Rattle.std.specs.List.{list_any, list_all, flat_map, cons_option}
use Rattle.cudf_text.specs.declared.fault.Fault.{Fault}
use Rattle.cudf_text.specs.declared.fault.Kind.{Kind}
use Rattle.cudf_text.specs.declared.fault.Kind.TheVariants.{E4, E5, E6, E7, E8, E9, E10, E11, E12, E13}
use Rattle.cudf_text.specs.Stanzas.{PlainProperty, PlainStanza, PlainText}
use Rattle.cudf_value.specs.Declarations.{PlainDeclaration}
use Rattle.cudf_problem.specs.declared.problem.Mode.{Mode}
use Rattle.cudf_problem.specs.declared.problem.Postmark.{Postmark}
use Rattle.cudf_problem.specs.declared.problem.Postmark.TheVariants.{Preamble, Package, Request}
use Rattle.cudf_document.specs.Faults.{fault_if}
use Rattle.cudf_problem.specs.Documents.{is_empty, with_earlier, postmark_named, postmark, marks, is_request, has_name, value_of}
use Rattle.cudf_problem.specs.Promises.Packages.{is_package, are_distinct, packages_in}
use Rattle.cudf_problem.specs.Ids.{Id, is_id, is_among, is_known, id_of}
use Rattle.cudf_document.specs.Working.Judging.{id_under, fails, is_mistyped, faults_or, line_of, version_property}
use Rattle.cudf_value.specs.Types.{can_be}
use Rattle.cudf_problem.specs.Values.{name_value}
use Rattle.cudf_document.specs.Working.Reads.{version_value}
use Rattle.cudf_value.specs.Parts.{look_up}
use Rattle.cudf_problem.specs.Preamble.{declared, declared_by, declared_after}
use Rattle.cudf_document.specs.Working.Tests.{Test, package_tests}
use Rattle.cudf_document.proofs.TestLemmas.{package_tests-are, fails-looked_up}
use Rattle.cudf_document.specs.ProblemFaults.{types_in, place_faults, property_faults, mistyped_faults, repeated_package_faults, unversioned_faults, required_names, missing_faults, problem_misplaces, misplaced_faults, inner_faults, stanza_faults, problem_faults, repeats, declares}
use Rattle.cudf_problem.specs.Universe.{PlainPackage, package_id, package_of}
use Rattle.cudf_document.specs.Promises.Laws.{IsSound}
use Rattle.cudf_document.specs.Working.ProblemBuilders.{package_with}
use Rattle.cudf_problem.proofs.IdLemmas.{distinct-places}
use Rattle.cudf_problem.proofs.ListLemmas.{is_some-find, is_some-option_map}
use Rattle.cudf_document.proofs.NameLemmas.{same_bytes, bytes_same}

-- ---- lists without elements

nil_parts : {A : Type 0} (xs ys : List A) → xs ++ ys ≡ [] → (xs ≡ []) × (ys ≡ [])
nil_parts [] ys h = (refl, h)
nil_parts (x ∷ xs) ys h = absurd cc

none_of : (b : Bool) (n : ℕ) (k : Kind) → fault_if b n k ≡ [] → b ≡ false
none_of true n k h = absurd cc
none_of false n k h = refl

neither : (place inner : List Fault) → faults_or place inner ≡ [] → (place ≡ []) × (inner ≡ [])
neither [] inner h = (refl, h)
neither (f ∷ fs) inner h = absurd cc

-- a test that every element without faults passes
all_without : {A B : Type 0} (faults : A → List B) (test : A → Bool) → ((x : A) → faults x ≡ [] → test x ≡ true)
    → (xs : List A) → flat_map faults xs ≡ [] → list_all test xs ≡ true
all_without faults test passes [] none = refl
all_without faults test passes (x ∷ xs) none =
    let parts = nil_parts (faults x) (flat_map faults xs) none in
    (λ i. passes x parts.0 i && all_without faults test passes xs parts.1 i)

all_after : {A : Type 0} (test : A → Bool) (before xs : List A) → list_all (λ x. test x.1) (with_earlier before xs) ≡ list_all test xs
all_after test before [] = refl
all_after test before (x ∷ xs) = ap (λ b. test x && b) (all_after test (before ++ x ∷ []) xs)

-- ---- a stanza without faults

record IsClean (before : List PlainStanza) (s : PlainStanza) : Type 0 where
  not_late : list_any is_request before ≡ false
  well_typed : list_all (λ p. not (is_mistyped (look_up p.name (types_in (declared before) (postmark s))) p.value)) s.properties ≡ true
  fresh : is_known (filter_map id_of before) (id_of s) ≡ false
  versioned : (marks Package (postmark s) && is_none (version_property s)) ≡ false

typed_property : (ds : List PlainDeclaration) (mark : Option Postmark) (x : List PlainProperty × PlainProperty) → property_faults ds mark x ≡ []
    → not (is_mistyped (look_up x.1.name (types_in ds mark)) x.1.value) ≡ true
typed_property ds mark (before, p) none =
    let others = fault_if (repeats before p && not (declares mark p)) p.line E7 ++ fault_if (marks Package mark && is_none (look_up p.name (types_in ds mark))) p.line E8 in
    let misdeclared = fault_if (declares mark p && is_none (declared_by (declared_after [] before) p.value)) p.line E10 in
    let typed = nil_parts others (mistyped_faults (types_in ds mark) p) (nil_parts (others ++ mistyped_faults (types_in ds mark) p) misdeclared none).0 in
    ap not (none_of (is_mistyped (look_up p.name (types_in ds mark)) p.value) p.line E9 typed.1)

clean : (mode : Mode) (before : List PlainStanza) (s : PlainStanza) → stanza_faults mode (before, s) ≡ [] → IsClean before s
clean mode before s none =
    let both = neither (place_faults before s) (inner_faults mode before s) none in
    let place = nil_parts (fault_if (is_none (postmark s)) s.line E4 ++ fault_if (marks Preamble (postmark s) && not (is_empty before)) s.line E5)
    (fault_if (list_any is_request before) s.line E6) both.0 in
    let missing = missing_faults (required_names mode (declared before)) s in
    let properties = flat_map (property_faults (declared before) (postmark s)) (with_earlier [] s.properties) in
    let others = nil_parts (missing ++ properties ++ repeated_package_faults E11 (before, s) ++ unversioned_faults s)
    (misplaced_faults mode (problem_misplaces (postmark s)) s.properties) both.1 in
    let inner = nil_parts (missing ++ properties ++ repeated_package_faults E11 (before, s)) (unversioned_faults s) others.0 in
    let front = nil_parts (missing ++ properties) (repeated_package_faults E11 (before, s)) inner.0 in
    let typed = nil_parts missing properties front.0 in
    record {
      not_late = none_of (list_any is_request before) s.line E6 place.1;
      well_typed =
          sym (all_after (λ p. not (is_mistyped (look_up p.name (types_in (declared before) (postmark s))) p.value)) [] s.properties)
          ∙ all_without (property_faults (declared before) (postmark s)) (λ x. not (is_mistyped (look_up x.1.name (types_in (declared before) (postmark s))) x.1.value))
          (typed_property (declared before) (postmark s)) (with_earlier [] s.properties) typed.1;
      fresh = none_of (is_known (filter_map id_of before) (id_of s)) (line_of (version_property s)) E11 front.1;
      versioned = none_of (marks Package (postmark s) && is_none (version_property s)) s.last E12 inner.1;
    }

-- ---- the parts of a problem

stanzas_clean : (text : PlainText) (mode : Mode) → problem_faults text mode ≡ [] → flat_map (stanza_faults mode) (with_earlier [] text.stanzas) ≡ []
unfolding problem_faults
stanzas_clean text mode none =
    let parts = nil_parts (option_to_list text.fault ++ flat_map (stanza_faults mode) (with_earlier [] text.stanzas)) (fault_if (not (list_any is_request text.stanzas)) (max 1 text.lines) E13) none in
    (nil_parts (option_to_list text.fault) (flat_map (stanza_faults mode) (with_earlier [] text.stanzas)) parts.0).1

-- there is a request
pub has_request : (text : PlainText) (mode : Mode) → problem_faults text mode ≡ [] → list_any is_request text.stanzas ≡ true
unfolding problem_faults
has_request text mode none =
    let parts = nil_parts (option_to_list text.fault ++ flat_map (stanza_faults mode) (with_earlier [] text.stanzas)) (fault_if (not (list_any is_request text.stanzas)) (max 1 text.lines) E13) none in
    not-false (list_any is_request text.stanzas) (none_of (not (list_any is_request text.stanzas)) (max 1 text.lines) E13 parts.1)

-- ---- no pair twice

packages_ids : (ds : List PlainDeclaration) (stanzas : List PlainStanza) → map package_id (filter_map (package_of ds) stanzas) ≡ filter_map id_of stanzas
packages_ids ds [] = refl
packages_ids ds (s ∷ stanzas) = by (id_of s) (packages_ids ds stanzas)
  where
    by : (o : Option Id) → map package_id (filter_map (package_of ds) stanzas) ≡ filter_map id_of stanzas
        → map package_id (cons_option (option_map (package_with ds s.line s.properties) o) (filter_map (package_of ds) stanzas)) ≡ cons_option o (filter_map id_of stanzas)
    by None rest = rest
    by (Some id) rest = ap (λ l. id ∷ l) rest

fresh_each : (before stanzas : List PlainStanza)
    → list_all (λ x. not (is_known (filter_map id_of x.0) (id_of x.1))) (with_earlier before stanzas)
    ≡ list_all (λ x. not (is_among x.0 x.1)) (with_earlier (filter_map id_of before) (filter_map id_of stanzas))
fresh_each before [] = refl
fresh_each before (s ∷ stanzas) = by (id_of s) refl (fresh_each (before ++ s ∷ []) stanzas)
  where
    rest : List Id → Bool
    rest ids = list_all (λ x. not (is_among x.0 x.1)) (with_earlier ids (filter_map id_of stanzas))

    by : (o : Option Id) → id_of s ≡ o
        → list_all (λ x. not (is_known (filter_map id_of x.0) (id_of x.1))) (with_earlier (before ++ s ∷ []) stanzas)
        ≡ list_all (λ x. not (is_among x.0 x.1)) (with_earlier (filter_map id_of (before ++ s ∷ [])) (filter_map id_of stanzas))
        → (not (is_known (filter_map id_of before) o) && list_all (λ x. not (is_known (filter_map id_of x.0) (id_of x.1))) (with_earlier (before ++ s ∷ []) stanzas))
        ≡ list_all (λ x. not (is_among x.0 x.1)) (with_earlier (filter_map id_of before) (cons_option o (filter_map id_of stanzas)))
    by None is more = more ∙ ap (λ ids. list_all (λ x. not (is_among x.0 x.1)) (with_earlier ids (filter_map id_of stanzas)))
        (filter_map-append id_of before (s ∷ []) ∙ ap (λ o. filter_map id_of before ++ cons_option o []) is ∙ append-nil (filter_map id_of before))
    by (Some id) is more = ap (λ b. not (is_among (filter_map id_of before) id) && b)
        (more ∙ ap (λ ids. list_all (λ x. not (is_among x.0 x.1)) (with_earlier ids (filter_map id_of stanzas)))
        (filter_map-append id_of before (s ∷ []) ∙ ap (λ o. filter_map id_of before ++ cons_option o []) is))

-- no two packages have one name and version
pub ids_distinct : (text : PlainText) (mode : Mode) → problem_faults text mode ≡ [] → are_distinct (map package_id (packages_in text.stanzas)) ≡ true
ids_distinct text mode none =
    ap are_distinct (packages_ids (declared text.stanzas) text.stanzas)
    ∙ sym (fresh_each [] text.stanzas)
    ∙ all_without (stanza_faults mode) (λ x. not (is_known (filter_map id_of x.0) (id_of x.1)))
    (λ x clean_x. not_from_false (is_known (filter_map id_of x.0) (id_of x.1)) (clean mode x.0 x.1 clean_x).fresh)
    (with_earlier [] text.stanzas) (stanzas_clean text mode none)

pub same_id : (x : Id) → is_id x x ≡ true
same_id x = and_from (bytes_eq x.0 x.0) (nat_eq x.1 x.1) (bytes_same x.0) (eq-eqb x.1 x.1 refl)

-- ---- what a sound problem has

all_apart : (packages : List PlainPackage) → are_distinct (map package_id packages) ≡ true → AllPairs (λ p q. package_id p ≢ package_id q) packages
all_apart packages all i j d before within same =
    let ids = map package_id packages in
    let len : length ids ≡ length packages = length-map packages package_id in
    let apart : is_id (get_or ids j (package_id d)) (get_or ids i (package_id d)) ≡ false = distinct-places ids i j (package_id d) all before (omega (arith, len)) in
    let first : get_or ids i (package_id d) ≡ package_id (get_or packages i d) = get_or-map package_id packages i d (package_id d) (omega arith) in
    let second : get_or ids j (package_id d) ≡ package_id (get_or packages j d) = get_or-map package_id packages j d (package_id d) within in
    true≢false (sym (same_id (package_id (get_or packages j d)))
    ∙ (λ k. is_id (package_id (get_or packages j d)) (sym same k))
    ∙ (λ k. is_id (sym second k) (sym first k)) ∙ apart)

one_passes : {A : Type 0} (p : A → Bool) (before xs : List A) → list_all (λ x. not (list_any p x.0)) (with_earlier before xs) ≡ true
    → list_any p before ≡ false → list_any p xs ≡ true → length (filter p xs) ≡ 1
one_passes p before [] all none one = absurd (true≢false (sym one))
one_passes {A} p before (x ∷ xs) all none one =
    by (p x) refl (one_passes p (before ++ x ∷ []) xs)
  where
    after : list_all (λ y. not (list_any p y.0)) (with_earlier (before ++ x ∷ []) xs) ≡ true
    after = (and_parts (not (list_any p before)) (list_all (λ y. not (list_any p y.0)) (with_earlier (before ++ x ∷ []) xs)) all).1

    so_far : list_any p (before ++ x ∷ []) ≡ p x
    so_far = list_any-append p before (x ∷ []) ∙ (λ i. none i || or-false (p x) i)

    nothing : (ys : List A) → list_any p (before ++ x ∷ []) ≡ true → list_all (λ y. not (list_any p y.0)) (with_earlier (before ++ x ∷ []) ys) ≡ true → ys ≡ []
    nothing [] there h = refl
    nothing (y ∷ ys) there h =
        absurd (true≢false (sym there ∙ not-true (list_any p (before ++ x ∷ []))
        (and_parts (not (list_any p (before ++ x ∷ []))) (list_all (λ z. not (list_any p z.0)) (with_earlier (before ++ x ∷ [] ++ y ∷ []) ys)) h).0))

    by : (b : Bool) → p x ≡ b
        → (list_all (λ y. not (list_any p y.0)) (with_earlier (before ++ x ∷ []) xs) ≡ true → list_any p (before ++ x ∷ []) ≡ false → list_any p xs ≡ true → length (filter p xs) ≡ 1)
        → length (if b then x ∷ filter p xs else filter p xs) ≡ 1
    by true is rest = ap (λ l. length (x ∷ filter p l)) (nothing xs (so_far ∙ is) after)
    by false is rest = rest after (so_far ∙ is) (ap (λ b. b || list_any p xs) (sym is) ∙ one)

-- there is one request
one_request : (text : PlainText) (mode : Mode) → problem_faults text mode ≡ [] → count_by is_request text.stanzas ≡ 1
one_request text mode none =
    sym (length-filter is_request text.stanzas)
    ∙ one_passes is_request [] text.stanzas
    (all_without (stanza_faults mode) (λ x. not (list_any is_request x.0))
    (λ x clean_x. not_from_false (list_any is_request x.0) (clean mode x.0 x.1 clean_x).not_late)
    (with_earlier [] text.stanzas) (stanzas_clean text mode none))
    refl (has_request text mode none)

-- a property that is there and of its type has a value
value_there : {A : Type 0} (read : List ℕ → Option A) (name : List ℕ) (known : List (List ℕ × Test)) (ps : List PlainProperty)
    → look_up name known ≡ Some (can_be read) → list_all (λ p. not (fails (look_up p.name known) p.value)) ps ≡ true
    → list_any (has_name name) ps ≡ true → is_some (value_of read name ps) ≡ true
value_there read name known [] test typed there = absurd (true≢false (sym there))
value_there {A} read name known (p ∷ ps) test typed there =
    by (bytes_eq p.name name) refl there (value_there read name known ps test parts.1)
  where
    parts : (not (fails (look_up p.name known) p.value) ≡ true) × (list_all (λ q. not (fails (look_up q.name known) q.value)) ps ≡ true)
    parts = and_parts (not (fails (look_up p.name known) p.value)) (list_all (λ q. not (fails (look_up q.name known) q.value)) ps) typed

    by : (b : Bool) → bytes_eq p.name name ≡ b → (b || list_any (has_name name) ps) ≡ true → (list_any (has_name name) ps ≡ true → is_some (value_of read name ps) ≡ true)
        → is_some (option_and_then (λ q. read q.value) (if b then Some p else find (has_name name) ps)) ≡ true
    by true is there rest =
        sym (not-not (is_some (read p.value)))
        ∙ ap (λ t. not (fails t p.value)) (sym (ap (λ n. look_up n known) (same_bytes p.name name is) ∙ test))
        ∙ parts.0
    by false is there rest = rest there

named_package : (ps : List PlainProperty) → option_and_then (λ p. postmark_named p.name) (slice_get ps 0) ≡ Some Package → list_any (has_name (codes "package")) ps ≡ true
named_package [] marked = absurd cc
named_package (p ∷ ps) marked =
    ap (λ b. b || list_any (has_name (codes "package")) ps) (by (bytes_eq p.name (codes "preamble")) (bytes_eq p.name (codes "package")) (bytes_eq p.name (codes "request")) marked)
  where
    by : (a b c : Bool) → ◌≡◌ {A = Option Postmark} (if a then Some Preamble else (if b then Some Package else (if c then Some Request else None))) (Some Package) → b ≡ true
    by true b c h = absurd cc
    by false true c h = refl
    by false false true h = absurd cc
    by false false false h = absurd cc

both_there : (name : Option (List ℕ)) (version : Option ℕ) → is_some name ≡ true → is_some version ≡ true → is_some (option_zip name version) ≡ true
both_there (Some n) (Some v) a b = refl
both_there _ _ a b = absurd cc

-- a package stanza without faults has a name and a version
id_there : (before : List PlainStanza) (s : PlainStanza) (mark : Option Postmark) → postmark s ≡ mark → IsClean before s
    → (not (marks Package mark) || is_some (id_under mark s.properties)) ≡ true
id_there before s (Some Package) marked c =
    let known = package_tests (declared before) in
    let typed : list_all (λ p. not (fails (look_up p.name known) p.value)) s.properties ≡ true =
    ap (λ tests. list_all (λ p. not (fails (look_up p.name tests) p.value)) s.properties) (sym (package_tests-are (declared before)))
    ∙ (λ i. list_all (λ p. not (fails-looked_up p.name p.value (types_in (declared before) (Some Package)) i)) s.properties)
    ∙ ap (λ m. list_all (λ p. not (is_mistyped (look_up p.name (types_in (declared before) m)) p.value)) s.properties) (sym marked) ∙ c.well_typed in
    let version : is_none (version_property s) ≡ false = ap (λ m. marks Package m && is_none (version_property s)) (sym marked) ∙ c.versioned in
    both_there (value_of name_value (codes "package") s.properties) (value_of version_value (codes "version") s.properties)
    (value_there name_value (codes "package") known s.properties refl typed (named_package s.properties marked))
    (value_there version_value (codes "version") known s.properties refl typed
    (sym (is_some-find (has_name (codes "version")) s.properties) ∙ is_there (version_property s) version))
  where
    is_there : {A : Type 0} (o : Option A) → is_none o ≡ false → is_some o ≡ true
    is_there None h = absurd cc
    is_there (Some x) h = refl
id_there before s _ marked c = refl

pub faultless_is_sound : (text : PlainText) (mode : Mode) → problem_faults text mode ≡ [] → IsSound text
faultless_is_sound text mode none = record {
  described =
      sym (all_after (λ s. not (is_package s) || is_some (package_of (declared text.stanzas) s)) [] text.stanzas)
      ∙ all_without (stanza_faults mode) (λ x. not (is_package x.1) || is_some (package_of (declared text.stanzas) x.1))
      (λ x clean_x.
      ap (λ b. not (is_package x.1) || b) (is_some-option_map (package_with (declared text.stanzas) x.1.line x.1.properties) (id_of x.1))
      ∙ id_there x.0 x.1 (postmark x.1) refl (clean mode x.0 x.1 clean_x))
      (with_earlier [] text.stanzas) (stanzas_clean text mode none);
  distinct = all_apart (packages_in text.stanzas) (ids_distinct text mode none);
  requested = one_request text mode none;
}
