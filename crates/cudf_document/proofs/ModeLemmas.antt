-- The faults of a document in both modes.
use Rattle.std.proofs.Common.{◌≡◌, ◌⊎◌, ℕ, Bool, true, false, not, ◌&&◌, ◌||◌, max, List, [], ◌∷◌, ◌++◌, Option, None, Some, is_none, is_some, Contains, All, inl, inr, refl, ◌∙◌, subst, IsTrue, option_to_list, filter_map}
use Rattle.std.proofs.lemmas.List.Elements.{All-nil, All-cons, All-append, All-contains, Contains-append_cases, Contains-append_left, Contains-append_right}
use Rattle.std.specs.List.{list_any, flat_map}
use Rattle.cudf_text.specs.declared.fault.Fault.{Fault}
use Rattle.cudf_text.specs.declared.fault.Kind.{Kind}
use Rattle.cudf_text.specs.declared.fault.Kind.TheVariants.{E4, E5, E6, E7, E8, E9, E10, E11, E12, E13, E14, E15, E16}
use Rattle.cudf_text.specs.Stanzas.{PlainProperty, PlainStanza, PlainText}
use Rattle.cudf_value.specs.Declarations.{PlainDeclaration}
use Rattle.cudf_problem.specs.declared.problem.Mode.TheVariants.{Lenient, Strict}
use Rattle.cudf_problem.specs.declared.problem.Postmark.{Postmark}
use Rattle.cudf_problem.specs.declared.problem.Postmark.TheVariants.{Preamble, Package}
use Rattle.cudf_document.specs.Faults.{fault_if}
use Rattle.cudf_problem.specs.Documents.{is_empty, with_earlier, postmark, marks, is_request}
use Rattle.cudf_document.specs.Working.Judging.{same_name, is_mistyped, faults_or, properties_faults, line_of, lacks_one, version_property}
use Rattle.cudf_problem.specs.Ids.{id_of, is_known}
use Rattle.cudf_problem.specs.Preamble.{declared, declared_by, declared_after}
use Rattle.cudf_value.specs.Parts.{look_up}
use Rattle.cudf_document.specs.ProblemFaults.{types_in, declares, property_faults, place_faults, repeated_package_faults, unversioned_faults, required_names, missing_faults, problem_misplaces, misplaced_faults, inner_faults, stanza_faults, problem_faults}
use Rattle.cudf_document.specs.SolutionFaults.{solution_types, value_faults, values_faults, undeclared_in_solution, solution_misplaces, solution_stanza_faults, repeated_pairs_faults, solution_faults}
use Rattle.cudf_document.specs.Promises.Laws.{is_strict_of_problem, is_strict_of_solution, is_strict, StrictAdds, StrictAddsSomeKinds}
use Rattle.cudf_document.specs.Working.DeclaredNames.{is_known_name, names_with}
use Rattle.cudf_document.proofs.LawLemmas.{head_or_after, none_in_nil, at_head}

-- ---- faults of some kinds besides

record Adds (is_added : Kind → Bool) (fs gs : List Fault) : Type 0 where
  kept : (f : Fault) → Contains fs f → Contains gs f
  added : (f : Fault) → Contains gs f → Contains fs f ⊎ IsTrue (is_added f.kind)

Adds-same : (is_added : Kind → Bool) (fs : List Fault) → Adds is_added fs fs
Adds-same is_added fs = record { kept = λ f there. there; added = λ f there. inl there }

Adds-append : (is_added : Kind → Bool) (fs gs more others : List Fault) → Adds is_added fs gs → Adds is_added more others → Adds is_added (fs ++ more) (gs ++ others)
Adds-append is_added fs gs more others front back = record {
  kept = λ f there. elim (Contains-append_cases fs more f there) [
    | inl here ↦ Contains-append_left gs others f (front.kept f here)
    | inr behind ↦ Contains-append_right gs others f (back.kept f behind)
  ];
  added = λ f there. elim (Contains-append_cases gs others f there) [
    | inl here ↦ elim (front.added f here) [ inl old ↦ inl (Contains-append_left fs more f old) | inr new ↦ inr new ]
    | inr behind ↦ elim (back.added f behind) [ inl old ↦ inl (Contains-append_right fs more f old) | inr new ↦ inr new ]
  ];
}

Adds-flat_map : {A : Type 0} (is_added : Kind → Bool) (faults others : A → List Fault) → ((x : A) → Adds is_added (faults x) (others x))
    → (xs : List A) → Adds is_added (flat_map faults xs) (flat_map others xs)
Adds-flat_map is_added faults others adds [] = Adds-same is_added []
Adds-flat_map is_added faults others adds (x ∷ xs) =
    Adds-append is_added (faults x) (others x) (flat_map faults xs) (flat_map others xs) (adds x) (Adds-flat_map is_added faults others adds xs)

-- faults of such a kind, where there were none
Adds-kind : (is_added : Kind → Bool) (kind : Kind) → IsTrue (is_added kind) → (test : Bool) (line : ℕ) → Adds is_added [] (fault_if test line kind)
Adds-kind is_added kind adds false line = Adds-same is_added []
Adds-kind is_added kind adds true line = record {
  kept = λ f there. absurd (none_in_nil f there);
  added = λ f there. elim (head_or_after (record { line = line; kind = kind }) f [] there) [
    | inl one ↦ inr ((λ i. is_added (one i).kind) ∙ adds)
    | inr more ↦ absurd (none_in_nil f more)
  ];
}

-- properties out of place, where none is reported
Adds-misplaced : (is_added : Kind → Bool) → IsTrue (is_added E16) → (misplaces : List ℕ → Bool) (ps : List PlainProperty) → Adds is_added [] (misplaced_faults Strict misplaces ps)
Adds-misplaced is_added adds misplaces [] = Adds-same is_added []
Adds-misplaced is_added adds misplaces (p ∷ ps) =
    Adds-append is_added [] (fault_if (misplaces p.name) p.line E16) [] (misplaced_faults Strict misplaces ps)
    (Adds-kind is_added E16 adds (misplaces p.name) p.line) (Adds-misplaced is_added adds misplaces ps)

Adds-faults_or : (is_added : Kind → Bool) (place fs gs : List Fault) → Adds is_added fs gs → Adds is_added (faults_or place fs) (faults_or place gs)
Adds-faults_or is_added [] fs gs adds = adds
Adds-faults_or is_added (f ∷ place) fs gs adds = Adds-same is_added (f ∷ place)

-- names that aren't declared, where none is reported
Adds-undeclared : (names : List (List ℕ)) (mark : Option Postmark) (ps : List PlainProperty) → Adds is_strict_of_solution [] (undeclared_in_solution Strict names mark ps)
Adds-undeclared names (Some Package) [] = Adds-same is_strict_of_solution []
Adds-undeclared names (Some Package) (p ∷ ps) =
    Adds-append is_strict_of_solution [] (fault_if (not (is_known_name names p.name)) p.line E8) [] (undeclared_in_solution Strict names (Some Package) ps)
    (Adds-kind is_strict_of_solution E8 refl (not (is_known_name names p.name)) p.line) (Adds-undeclared names (Some Package) ps)
Adds-undeclared names _ ps = Adds-same is_strict_of_solution []

-- ---- faults that are reported in both modes

-- the fault of the line, or one of a kind that is reported in both modes
abbrev IsTold : (Kind → Bool) → Option Fault → Fault → Type 0
IsTold is_added line f = (line ≡ Some f) ⊎ ((is_added f.kind || is_strict f.kind) ≡ false)

module _ (is_added : Kind → Bool) (line : Option Fault) where
  told_if : (kind : Kind) → (is_added kind || is_strict kind) ≡ false → (test : Bool) (n : ℕ) → All (IsTold is_added line) (fault_if test n kind)
  told_if kind told false n = All-nil (IsTold is_added line)
  told_if kind told true n = All-cons (IsTold is_added line) (record { line = n; kind = kind }) [] (inr told) (All-nil (IsTold is_added line))

  both_told : (fs gs : List Fault) → All (IsTold is_added line) fs → All (IsTold is_added line) gs → All (IsTold is_added line) (fs ++ gs)
  both_told fs gs front back = All-append (IsTold is_added line) fs gs front back

  told-flat_map : {A : Type 0} (faults : A → List Fault) → ((x : A) → All (IsTold is_added line) (faults x)) → (xs : List A)
      → All (IsTold is_added line) (flat_map faults xs)
  told-flat_map faults told [] = All-nil (IsTold is_added line)
  told-flat_map faults told (x ∷ xs) = both_told (faults x) (flat_map faults xs) (told x) (told-flat_map faults told xs)

  told-faults_or : (place fs : List Fault) → All (IsTold is_added line) place → All (IsTold is_added line) fs → All (IsTold is_added line) (faults_or place fs)
  told-faults_or [] fs place inner = inner
  told-faults_or (f ∷ fs) gs place inner = place

  line_told : All (IsTold is_added line) (option_to_list line)
  line_told = by line refl
    where
      by : (o : Option Fault) → line ≡ o → All (IsTold is_added line) (option_to_list o)
      by None is = All-nil (IsTold is_added line)
      by (Some f) is = All-cons (IsTold is_added line) f [] (inl is) (All-nil (IsTold is_added line))

  unversioned_told : (is_added E12 || is_strict E12) ≡ false → (s : PlainStanza) → All (IsTold is_added line) (unversioned_faults s)
  unversioned_told told s = told_if E12 told (marks Package (postmark s) && is_none (version_property s)) s.last

-- ---- of a problem

module _ (line : Option Fault) where
  abbrev of_problem : List Fault → Type 0
  of_problem fs = All (IsTold is_strict_of_problem line) fs

  problem_told : (fs gs : List Fault) → of_problem fs → of_problem gs → of_problem (fs ++ gs)
  problem_told fs gs front back = both_told is_strict_of_problem line fs gs front back

  property_told : (ds : List PlainDeclaration) (mark : Option Postmark) (x : List PlainProperty × PlainProperty) → of_problem (property_faults ds mark x)
  property_told ds mark (before, p) =
      let K : Kind → Bool = is_strict_of_problem in
      let repeated = told_if K line E7 refl (list_any (same_name p) before && not (declares mark p)) p.line in
      let undeclared = told_if K line E8 refl (marks Package mark && is_none (look_up p.name (types_in ds mark))) p.line in
      let mistyped = told_if K line E9 refl (is_mistyped (look_up p.name (types_in ds mark)) p.value) p.line in
      let misdeclared = told_if K line E10 refl (declares mark p && is_none (declared_by (declared_after [] before) p.value)) p.line in
      problem_told _ _ (problem_told _ _ (problem_told _ _ repeated undeclared) mistyped) misdeclared

  stanza_told : (x : List PlainStanza × PlainStanza) → of_problem (stanza_faults Lenient x)
  stanza_told (before, s) =
      let K : Kind → Bool = is_strict_of_problem in
      let late_preamble = told_if K line E5 refl (marks Preamble (postmark s) && not (is_empty before)) s.line in
      let late = told_if K line E6 refl (list_any is_request before) s.line in
      let properties = told-flat_map K line (property_faults (declared before) (postmark s)) (property_told (declared before) (postmark s)) (with_earlier [] s.properties) in
      let repeated = told_if K line E11 refl (is_known (filter_map id_of before) (id_of s)) (line_of (version_property s)) in
      told-faults_or K line (place_faults before s) (inner_faults Lenient before s)
      (problem_told _ _ (problem_told _ _ (told_if K line E4 refl (is_none (postmark s)) s.line) late_preamble) late)
      (problem_told _ _ (problem_told _ _ (problem_told _ _ properties repeated) (unversioned_told K line refl s)) (All-nil (IsTold K line)))

-- ---- of a solution

module _ (line : Option Fault) where
  abbrev of_solution : List Fault → Type 0
  of_solution fs = All (IsTold is_strict_of_solution line) fs

  solution_told : (fs gs : List Fault) → of_solution fs → of_solution gs → of_solution (fs ++ gs)
  solution_told fs gs front back = both_told is_strict_of_solution line fs gs front back

  value_told : (x : List PlainProperty × PlainProperty) → of_solution (value_faults x)
  value_told (before, p) =
      let K : Kind → Bool = is_strict_of_solution in
      solution_told _ _ (told_if K line E7 refl (list_any (same_name p) before && is_some (look_up p.name solution_types)) p.line)
      (told_if K line E9 refl (is_mistyped (look_up p.name solution_types) p.value) p.line)

  values_told : (mark : Option Postmark) (ps : List PlainProperty) → of_solution (values_faults mark ps)
  values_told (Some Package) ps = told-flat_map is_strict_of_solution line value_faults value_told (with_earlier [] ps)
  values_told _ ps = All-nil (IsTold is_strict_of_solution line)

  solution_stanza_told : (names : List (List ℕ)) (s : PlainStanza) → of_solution (solution_stanza_faults Lenient names s)
  solution_stanza_told names s =
      let K : Kind → Bool = is_strict_of_solution in
      solution_told _ _ (solution_told _ _ (solution_told _ _ (solution_told _ _ (told_if K line E4 refl (is_none (postmark s)) s.line) (values_told (postmark s) s.properties))
      (unversioned_told K line refl s)) (All-nil (IsTold K line))) (All-nil (IsTold K line))

-- ---- a document

-- what is reported in both modes, with faults of some kinds besides
adds-told : (is_added : Kind → Bool) (line : Option Fault) (lenient strict : List Fault) → Adds is_added lenient strict → All (IsTold is_added line) lenient
    → StrictAdds is_added line lenient strict
adds-told is_added line lenient strict adds told = record {
  kept = adds.kept;
  added = adds.added;
  lenient_kinds = λ f there. All-contains (IsTold is_added line) lenient f told there;
  faultless = λ none. by lenient (λ f there. none_in_nil f (subst (λ l. Contains l f) none (adds.kept f there)));
}
  where
    by : (fs : List Fault) → ((f : Fault) → Contains fs f → ⊥) → fs ≡ []
    by [] none = refl
    by (f ∷ fs) none = absurd (none f (at_head f fs))

stanza_adds : (x : List PlainStanza × PlainStanza) → Adds is_strict_of_problem (stanza_faults Lenient x) (stanza_faults Strict x)
stanza_adds (before, s) =
    let ds = declared before in
    let K : Kind → Bool = is_strict_of_problem in
    let missing = Adds-kind K E14 refl (lacks_one (required_names Strict ds) s.properties && marks Package (postmark s)) s.last in
    let misplaced = Adds-misplaced K refl (problem_misplaces (postmark s)) s.properties in
    Adds-faults_or K (place_faults before s) (inner_faults Lenient before s) (inner_faults Strict before s)
    (Adds-append K _ _ [] (misplaced_faults Strict (problem_misplaces (postmark s)) s.properties)
    (Adds-append K _ _ (unversioned_faults s) (unversioned_faults s)
    (Adds-append K _ _ (repeated_package_faults E11 (before, s)) (repeated_package_faults E11 (before, s))
    (Adds-append K [] (missing_faults (required_names Strict ds) s) (properties_faults ds (postmark s) s.properties) (properties_faults ds (postmark s) s.properties) missing
    (Adds-same K _)) (Adds-same K _)) (Adds-same K _)) misplaced)

problem_adds : (text : PlainText) → StrictAdds is_strict_of_problem text.fault (problem_faults text Lenient) (problem_faults text Strict)
unfolding problem_faults
problem_adds text =
    let each = with_earlier [] text.stanzas in
    let K : Kind → Bool = is_strict_of_problem in
    adds-told K text.fault _ _
    (Adds-append K _ _ (fault_if (not (list_any is_request text.stanzas)) (max 1 text.lines) E13) (fault_if (not (list_any is_request text.stanzas)) (max 1 text.lines) E13)
    (Adds-append K (option_to_list text.fault) (option_to_list text.fault) (flat_map (stanza_faults Lenient) each) (flat_map (stanza_faults Strict) each)
    (Adds-same K _) (Adds-flat_map K (stanza_faults Lenient) (stanza_faults Strict) stanza_adds each)) (Adds-same K _))
    (problem_told text.fault _ _ (problem_told text.fault _ _ (line_told K text.fault) (told-flat_map K text.fault (stanza_faults Lenient) (stanza_told text.fault) each))
    (told_if K text.fault E13 refl (not (list_any is_request text.stanzas)) (max 1 text.lines)))

-- a pair that occurs again, where none counts
pairs_add : (xs : List (List PlainStanza × PlainStanza)) → Adds is_strict_of_solution [] (flat_map (repeated_package_faults E15) xs)
pairs_add [] = Adds-same is_strict_of_solution []
pairs_add ((before, s) ∷ xs) =
    Adds-append is_strict_of_solution [] (repeated_package_faults E15 (before, s)) [] (flat_map (repeated_package_faults E15) xs)
    (Adds-kind is_strict_of_solution E15 refl (is_known (filter_map id_of before) (id_of s)) (line_of (version_property s))) (pairs_add xs)

solution_stanza_adds : (names : List (List ℕ)) (s : PlainStanza) → Adds is_strict_of_solution (solution_stanza_faults Lenient names s) (solution_stanza_faults Strict names s)
solution_stanza_adds names s =
    let K : Kind → Bool = is_strict_of_solution in
    Adds-append K _ _ [] (undeclared_in_solution Strict names (postmark s) s.properties)
    (Adds-append K _ _ [] (misplaced_faults Strict (solution_misplaces (postmark s)) s.properties)
    (Adds-same K (fault_if (is_none (postmark s)) s.line E4 ++ values_faults (postmark s) s.properties ++ unversioned_faults s))
    (Adds-misplaced K refl (solution_misplaces (postmark s)) s.properties))
    (Adds-undeclared names (postmark s) s.properties)

solution_adds : (text : PlainText) (names : List (List ℕ))
    → StrictAdds is_strict_of_solution text.fault (solution_faults text Lenient names) (solution_faults text Strict names)
unfolding solution_faults
solution_adds text names =
    let K : Kind → Bool = is_strict_of_solution in
    let lenient : PlainStanza → List Fault = solution_stanza_faults Lenient (names_with names text.stanzas) in
    let strict : PlainStanza → List Fault = solution_stanza_faults Strict (names_with names text.stanzas) in
    adds-told K text.fault _ _
    (Adds-append K _ _ (flat_map lenient text.stanzas) (flat_map strict text.stanzas)
    (Adds-append K [] (repeated_pairs_faults Strict text.stanzas) (option_to_list text.fault) (option_to_list text.fault)
    (pairs_add (with_earlier [] text.stanzas)) (Adds-same K _))
    (Adds-flat_map K lenient strict (solution_stanza_adds (names_with names text.stanzas)) text.stanzas))
    (solution_told text.fault _ _ (line_told K text.fault)
    (told-flat_map K text.fault lenient (solution_stanza_told text.fault (names_with names text.stanzas)) text.stanzas))

pub strict_adds_some_kinds : StrictAddsSomeKinds
strict_adds_some_kinds text names = (problem_adds text, solution_adds text names)
