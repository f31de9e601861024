-- What is gathered of the stanzas of a problem, one after the other.
use Rattle.std.proofs.Common.{◌≡◌, ℕ, Bool, true, false, not, ◌||◌, ◌&&◌, List, [], ◌∷◌, ◌++◌, Option, None, Some, is_some, is_none, nat_eq, max, find, filter_map, map, refl, sym, ap, ◌∙◌, if◌then◌else◌, option_map, option_to_list, bytes_eq}
use Rattle.std.proofs.Math.Bool.{not-not, and-true, and-false, or-false}
use Rattle.std.proofs.lemmas.Bool.{and_parts, eqb-true, not-true}
use Rattle.std.proofs.lemmas.List.{append-nil, append_assoc, map_push}
use Rattle.std.proofs.lemmas.List.Elements.{filter_map-append}
use Rattle.std.proofs.lemmas.List.Folds.{list_any-append, find-append}
use Rattle.std.specs.List.{list_any, list_all, flat_map, cons_option}
use Rattle.std.specs.Option.{option_or}
use Rattle.indexmap.specs.IndexSet.{insert_key}
use Rattle.cudf_text.specs.declared.fault.Fault.{Fault}
use Rattle.cudf_text.specs.declared.fault.Kind.TheVariants.{E4, E5, E6, E11, E12, E13, E14}
use Rattle.cudf_text.specs.Stanzas.{PlainStanza, PlainText}
use Rattle.cudf_problem.specs.declared.problem.Mode.{Mode}
use Rattle.cudf_problem.specs.declared.problem.Postmark.{Postmark}
use Rattle.cudf_problem.specs.declared.problem.Postmark.TheVariants.{Preamble, Package, Request}
use Rattle.cudf_document.specs.Faults.{lesser, least, fault_if}
use Rattle.cudf_problem.specs.Documents.{is_empty, with_earlier, postmark, marks, is_request}
use Rattle.cudf_problem.specs.Ids.{Id, is_id, is_among, is_known, id_of}
use Rattle.cudf_document.specs.Working.Judging.{request_in, id_under, placed_faults, line_of, lacks_one, version_property}
use Rattle.cudf_problem.specs.Promises.Packages.{are_distinct, with_id, packages_in}
use Rattle.cudf_problem.specs.Preamble.{declared_after, declared}
use Rattle.cudf_document.specs.ProblemFaults.{place_faults, property_faults, repeated_package_faults, unversioned_faults, required_names, missing_faults, problem_misplaces, misplaced_faults, inner_faults, stanza_faults, problem_faults}
use Rattle.cudf_problem.specs.Universe.{PlainPackage, package_id, package_of, request_of}
use Rattle.cudf_document.specs.Working.ProblemBuilders.{PlainBuilder, with_stanza, faults_inside, IsBuilt, IsListed, first_ids, package_with}
use Rattle.cudf_problem.proofs.ListLemmas.{as_list, option_or-none, list_any-insert_key, is_some-find, is_some-option_map}
use Rattle.cudf_document.proofs.NameLemmas.{same_bytes}
use Rattle.cudf_document.proofs.FaultLemmas.{least-faults_or, least-append}

-- ---- what is declared

declared-push : (before : List PlainStanza) (s : PlainStanza) → declared (before ++ s ∷ []) ≡ (if is_empty before then (if marks Preamble (postmark s) then declared_after [] s.properties else []) else declared before)
declared-push [] s = refl
declared-push (t ∷ before) s = refl

-- a stanza that is no preamble declares nothing
declared-other : (before : List PlainStanza) (s : PlainStanza) → marks Preamble (postmark s) ≡ false → declared (before ++ s ∷ []) ≡ declared before
declared-other [] s h = ap (λ b. if b then declared_after [] s.properties else []) h
declared-other (t ∷ before) s h = refl

-- ---- names and versions

pub same_pair : (x y : Id) → is_id x y ≡ true → x ≡ y
same_pair x y same =
    let parts = and_parts (bytes_eq x.0 y.0) (nat_eq x.1 y.1) same in
    λ i. (same_bytes x.0 y.0 parts.0 i, eqb-true x.1 y.1 parts.1 i)

pub with_id-append : (ids : List Id) (o : Option Id) (id : Id) → is_among (with_id ids o) id ≡ is_among (ids ++ cons_option o []) id
with_id-append ids None id = ap (λ l. is_among l id) (sym (append-nil ids))
with_id-append ids (Some new) id =
    list_any-insert_key is_id (is_id id) ids new (λ k same. ap (is_id id) (sym (same_pair new k same)))
    ∙ (λ i. is_among ids id || sym (or-false (is_id id new)) i)
    ∙ sym (list_any-append (is_id id) ids (new ∷ []))

pub is_known-along : (ids others : List Id) (o : Option Id) → ((id : Id) → is_among ids id ≡ is_among others id) → is_known ids o ≡ is_known others o
is_known-along ids others None same = refl
is_known-along ids others (Some id) same = same id

-- ---- packages

packages_before : (before : List PlainStanza) (s : PlainStanza) → filter_map (package_of (declared (before ++ s ∷ []))) before ≡ packages_in before
packages_before [] s = refl
packages_before (t ∷ before) s = refl

packages_in-push : (before : List PlainStanza) (s : PlainStanza)
    → packages_in (before ++ s ∷ []) ≡ packages_in before ++ cons_option (package_of (declared (before ++ s ∷ [])) s) []
packages_in-push before s =
    filter_map-append (package_of (declared (before ++ s ∷ []))) before (s ∷ [])
    ∙ ap (λ l. l ++ cons_option (package_of (declared (before ++ s ∷ [])) s) []) (packages_before before s)

-- ---- the request

or_of : {A B : Type 0} (f : A → B) (x y : Option A) → option_map f (option_or x y) ≡ option_or (option_map f x) (option_map f y)
or_of f None y = refl
or_of f (Some x) y = refl

request_in-push : (before : List PlainStanza) (s : PlainStanza)
    → request_in (before ++ s ∷ []) ≡ option_or (request_in before) (option_map request_of (if is_request s then Some s else None))
request_in-push before s = ap (option_map request_of) (find-append is_request before (s ∷ [])) ∙ or_of request_of (find is_request before) (find is_request (s ∷ []))

first_or : {A : Type 0} (x : Option A) (y : A) → (if is_some x then x else Some y) ≡ option_or x (Some y)
first_or None y = refl
first_or (Some x) y = refl

-- ---- all of it

-- whether there was a request
pub requested_is : (g : PlainBuilder) (before : List PlainStanza) → IsBuilt g before → is_some g.request ≡ list_any is_request before
requested_is g before so_far = ap is_some so_far.request_is ∙ is_some-option_map request_of (find is_request before) ∙ is_some-find is_request before

module _ (g : PlainBuilder) (before : List PlainStanza) (s : PlainStanza) (so_far : IsBuilt g before) where
  no_more_ids : id_of s ≡ None → (id : Id) → is_among g.ids id ≡ is_among (filter_map id_of (before ++ s ∷ [])) id
  no_more_ids none id =
      so_far.ids_are id ∙ ap (λ l. is_among l id) (sym (filter_map-append id_of before (s ∷ []) ∙ ap (λ o. filter_map id_of before ++ cons_option o []) none ∙ append-nil (filter_map id_of before)))

  no_more_packages : id_of s ≡ None → g.packages ≡ packages_in (before ++ s ∷ [])
  no_more_packages none =
      so_far.packages_are
      ∙ sym (packages_in-push before s
      ∙ ap (λ o. packages_in before ++ cons_option (option_map (package_with (declared (before ++ s ∷ [])) s.line s.properties) o) []) none
      ∙ append-nil (packages_in before))

  no_more_requests : is_request s ≡ false → g.request ≡ request_in (before ++ s ∷ [])
  no_more_requests none =
      so_far.request_is
      ∙ sym (request_in-push before s ∙ ap (λ b. option_or (request_in before) (option_map request_of (if b then Some s else None))) none ∙ option_or-none (request_in before))

  -- one more stanza
  pub IsBuilt-next : (mark : Option Postmark) (is_first : Bool) → postmark s ≡ mark → is_first ≡ is_empty before → IsBuilt (with_stanza mark is_first s g) (before ++ s ∷ [])
  IsBuilt-next None is_first marked first = record {
    declared_are = so_far.declared_are ∙ sym (declared-other before s (ap (marks Preamble) marked));
    ids_are = no_more_ids (ap (λ m. id_under m s.properties) marked);
    packages_are = no_more_packages (ap (λ m. id_under m s.properties) marked);
    request_is = no_more_requests (ap (marks Request) marked);
  }
  IsBuilt-next (Some Preamble) is_first marked first = record {
    declared_are = (λ i. if first i then (if marks Preamble (sym marked i) then declared_after [] s.properties else []) else so_far.declared_are i) ∙ sym (declared-push before s);
    ids_are = no_more_ids (ap (λ m. id_under m s.properties) marked);
    packages_are = no_more_packages (ap (λ m. id_under m s.properties) marked);
    request_is = no_more_requests (ap (marks Request) marked);
  }
  IsBuilt-next (Some Package) is_first marked first = record {
    declared_are = so_far.declared_are ∙ sym (declared-other before s (ap (marks Preamble) marked));
    ids_are = λ id.
        let o : Option Id = id_under (Some Package) s.properties in
        with_id-append g.ids o id ∙ list_any-append (is_id id) g.ids (cons_option o [])
        ∙ (λ i. so_far.ids_are id i || is_among (cons_option (id_under (sym marked i) s.properties) []) id)
        ∙ sym (list_any-append (is_id id) (filter_map id_of before) (cons_option (id_of s) []))
        ∙ ap (λ l. is_among l id) (sym (filter_map-append id_of before (s ∷ [])));
    packages_are =
        (λ i. so_far.packages_are i ++ as_list (option_map (package_with g.declared s.line s.properties) (id_under (Some Package) s.properties)) i)
        ∙ (λ i. packages_in before
        ++ cons_option (option_map (package_with ((so_far.declared_are ∙ sym (declared-other before s (ap (marks Preamble) marked))) i) s.line s.properties) (id_under (sym marked i) s.properties)) [])
        ∙ sym (packages_in-push before s);
    request_is = no_more_requests (ap (marks Request) marked);
  }
  IsBuilt-next (Some Request) is_first marked first = record {
    declared_are = so_far.declared_are ∙ sym (declared-other before s (ap (marks Preamble) marked));
    ids_are = no_more_ids (ap (λ m. id_under m s.properties) marked);
    packages_are = no_more_packages (ap (λ m. id_under m s.properties) marked);
    request_is = first_or g.request (request_of s) ∙ ap (λ r. option_or r (Some (request_of s))) so_far.request_is
        ∙ ap (λ b. option_or (request_in before) (option_map request_of (if b then Some s else None))) (sym (ap (marks Request) marked))
        ∙ sym (request_in-push before s);
  }

  -- the faults inside a stanza with a postmark, by whether a required property is missing
  abbrev inner_of : Mode → Option Postmark → Bool → List Fault
  inner_of mode mark lacks =
      fault_if lacks s.last E14
      ++ flat_map (property_faults (declared before) mark) (with_earlier [] s.properties)
      ++ fault_if (is_known (filter_map id_of before) (id_under mark s.properties)) (line_of (version_property s)) E11
      ++ fault_if (marks Package mark && is_none (version_property s)) s.last E12

  -- those inside, but for properties out of place
  abbrev other_faults : Mode → List Fault
  other_faults mode =
      missing_faults (required_names mode (declared before)) s
      ++ flat_map (property_faults (declared before) (postmark s)) (with_earlier [] s.properties)
      ++ repeated_package_faults E11 (before, s) ++ unversioned_faults s

  inside_is : (mode : Mode) (mark : Postmark) → postmark s ≡ Some mark → faults_inside (Some mark) (required_names mode (declared before)) g s ≡ other_faults mode
  inside_is mode Preamble marked = simp (marked, and-false, append-nil)
  inside_is mode Request marked = simp (marked, and-false, append-nil)
  inside_is mode Package marked =
      let required = required_names mode (declared before) in
      let lacks = lacks_one required s.properties in
      (λ i. fault_if (sym (and-true lacks) i) s.last E14
      ++ flat_map (property_faults (so_far.declared_are i) (Some Package)) (with_earlier [] s.properties)
      ++ fault_if (is_known g.ids (id_under (Some Package) s.properties)) (line_of (version_property s)) E11
      ++ fault_if (is_none (version_property s)) s.last E12)
      ∙ (λ i. fault_if (lacks && marks Package (sym marked i)) s.last E14
      ++ flat_map (property_faults (declared before) (sym marked i)) (with_earlier [] s.properties)
      ++ fault_if (is_known g.ids (id_under (sym marked i) s.properties)) (line_of (version_property s)) E11
      ++ fault_if (marks Package (sym marked i) && is_none (version_property s)) s.last E12)
      ∙ ap (λ b. fault_if (lacks && marks Package (postmark s)) s.last E14
      ++ flat_map (property_faults (declared before) (postmark s)) (with_earlier [] s.properties)
      ++ fault_if b (line_of (version_property s)) E11
      ++ fault_if (marks Package (postmark s) && is_none (version_property s)) s.last E12)
      (is_known-along g.ids (filter_map id_of before) (id_of s) so_far.ids_are)

  -- a stanza's first fault, by where it is or else inside it, and a property out of place
  pub stanza_least : (mode : Mode) (mark : Option Postmark) (is_first : Bool) (place inside stray : Option Fault) → postmark s ≡ mark → is_first ≡ is_empty before
      → place ≡ least (placed_faults is_first (is_some g.request) mark s.line) → inside ≡ least (faults_inside mark (required_names mode (declared before)) g s)
      → stray ≡ least (misplaced_faults mode (problem_misplaces mark) s.properties)
      → option_or place (lesser inside stray) ≡ least (stanza_faults mode (before, s))
  stanza_least mode mark is_first place inside stray marked first place_is inside_eq stray_is =
      (λ i. option_or ((place_is ∙ (λ j. least (placed_faults (first j) (requested_is g before so_far j) (sym marked j) s.line))) i)
      (lesser (inside_eq i) ((stray_is ∙ ap stray_of (sym marked)) i)))
      ∙ within mark marked
      ∙ sym (least-faults_or (place_faults before s) (inner_faults mode before s))
    where
      stray_of : Option Postmark → Option Fault
      stray_of m = least (misplaced_faults mode (problem_misplaces m) s.properties)

      some_or : (f : Fault) (x y z : Option Fault) → option_or (lesser (Some f) x) y ≡ option_or (lesser (Some f) x) z
      some_or f None y z = refl
      some_or f (Some g') y z = refl

      within : (m : Option Postmark) → postmark s ≡ m
          → option_or (least (place_faults before s)) (lesser (least (faults_inside m (required_names mode (declared before)) g s)) (stray_of (postmark s)))
          ≡ option_or (least (place_faults before s)) (least (inner_faults mode before s))
      within (Some m) e =
          ap (λ fs. option_or (least (place_faults before s)) (lesser (least fs) (stray_of (postmark s)))) (inside_is mode m e)
          ∙ ap (option_or (least (place_faults before s))) (sym (least-append (other_faults mode) (misplaced_faults mode (problem_misplaces (postmark s)) s.properties)))
      within None e =
          ap (λ m. option_or (least (placed_faults (is_empty before) (list_any is_request before) m s.line)) (lesser None (stray_of (postmark s)))) e
          ∙ some_or (record { line = s.line; kind = E4 }) (least ([] ++ fault_if (list_any is_request before) s.line E6)) (lesser None (stray_of (postmark s))) (least (inner_faults mode before s))
          ∙ ap (λ m. option_or (least (placed_faults (is_empty before) (list_any is_request before) m s.line)) (least (inner_faults mode before s))) (sym e)

-- ---- each pair once

first_ids-push : (ids xs : List Id) (x : Id) → first_ids ids (xs ++ x ∷ []) ≡ insert_key is_id (first_ids ids xs) x
first_ids-push ids [] x = refl
first_ids-push ids (y ∷ xs) x = first_ids-push (insert_key is_id ids y) xs x

listed_more : (ids : List Id) (packages : List PlainPackage) (id : Option Id) (make : Id → PlainPackage) → ((i : Id) → package_id (make i) ≡ i)
    → ids ≡ first_ids [] (map package_id packages) → with_id ids id ≡ first_ids [] (map package_id (packages ++ option_to_list (option_map make id)))
listed_more ids packages None make same so_far = so_far ∙ ap (λ ps. first_ids [] (map package_id ps)) (sym (append-nil packages))
listed_more ids packages (Some i) make same so_far =
    ap (λ l. insert_key is_id l i) so_far
    ∙ sym (ap (first_ids []) (map_push package_id packages (make i) ∙ ap (λ x. map package_id packages ++ x ∷ []) (same i))
    ∙ first_ids-push [] (map package_id packages) i)

pub listed_next : (mark : Option Postmark) (is_first : Bool) (s : PlainStanza) (g : PlainBuilder) → IsListed g → IsListed (with_stanza mark is_first s g)
listed_next (Some Package) is_first s g so_far = listed_more g.ids g.packages (id_under (Some Package) s.properties) _ (λ i. refl) so_far
listed_next _ is_first s g so_far = so_far

-- pairs of which none occurs twice are all there
first_ids-distinct : (before xs : List Id) → list_all (λ x. not (is_among x.0 x.1)) (with_earlier before xs) ≡ true → first_ids before xs ≡ before ++ xs
first_ids-distinct before [] all = sym (append-nil before)
first_ids-distinct before (x ∷ xs) all =
    let each = and_parts (not (is_among before x)) (list_all (λ y. not (is_among y.0 y.1)) (with_earlier (before ++ x ∷ []) xs)) all in
    ap (λ b. first_ids (if b then before else before ++ x ∷ []) xs) (not-true (is_among before x) each.0)
    ∙ first_ids-distinct (before ++ x ∷ []) xs each.1 ∙ append_assoc before (x ∷ []) xs

pub all_ids : (g : PlainBuilder) → IsListed g → are_distinct (map package_id g.packages) ≡ true → g.ids ≡ map package_id g.packages
all_ids g listed distinct = listed ∙ first_ids-distinct [] (map package_id g.packages) distinct

-- ---- a problem

least-option : (fault : Option Fault) → least (option_to_list fault) ≡ fault
least-option None = refl
least-option (Some f) = refl

pub problem_least : (text : PlainText) (mode : Mode) (first : Option Fault) (none : Bool) (line : ℕ) → first ≡ least (flat_map (stanza_faults mode) (with_earlier [] text.stanzas))
    → none ≡ not (list_any is_request text.stanzas) → line ≡ max 1 text.lines
    → lesser (lesser text.fault first) (least (fault_if none line E13)) ≡ least (problem_faults text mode)
unfolding problem_faults
problem_least text mode first none line first_is none_is line_is =
    (λ i. lesser (lesser (sym (least-option text.fault) i) (first_is i)) (least (fault_if (none_is i) (line_is i) E13)))
    ∙ ap (λ x. lesser x (least (fault_if (not (list_any is_request text.stanzas)) (max 1 text.lines) E13))) (sym (least-append (option_to_list text.fault) (flat_map (stanza_faults mode) (with_earlier [] text.stanzas))))
    ∙ sym (least-append (option_to_list text.fault ++ flat_map (stanza_faults mode) (with_earlier [] text.stanzas)) (fault_if (not (list_any is_request text.stanzas)) (max 1 text.lines) E13))

pub place_least : (is_first is_late none preamble : Bool) (mark : Option Postmark) (line : ℕ) → none ≡ is_none mark → preamble ≡ (marks Preamble mark && not is_first)
    → lesser (lesser (least (fault_if none line E4)) (least (fault_if preamble line E5))) (least (fault_if is_late line E6)) ≡ least (placed_faults is_first is_late mark line)
place_least is_first is_late none preamble mark line none_is preamble_is =
    (λ i. lesser (lesser (least (fault_if (none_is i) line E4)) (least (fault_if (preamble_is i) line E5))) (least (fault_if is_late line E6)))
    ∙ ap (λ x. lesser x (least (fault_if is_late line E6))) (sym (least-append (fault_if (is_none mark) line E4) (fault_if (marks Preamble mark && not is_first) line E5)))
    ∙ sym (least-append (fault_if (is_none mark) line E4 ++ fault_if (marks Preamble mark && not is_first) line E5) (fault_if is_late line E6))

pub not_swap : (a b : Bool) → a ≡ not b → b ≡ not a
not_swap a b h = sym (not-not b) ∙ ap not (sym h)

pub is_none-from : {A : Type 0} (x : Option A) (b : Bool) → is_some x ≡ not b → b ≡ is_none x
is_none-from None b h = not_swap false b h
is_none-from (Some y) b h = not_swap true b h
