-- A fault of a stanza is on one of its lines, and so the stanza is found by it.
use Rattle.std.proofs.Common.{◌≡◌, ℕ, ◌≤◌, Bool, true, false, not, ◌&&◌, List, [], ◌∷◌, ◌++◌, Option, None, Some, All, find, filter_map, refl, ap, subst, arith, is_none, is_some, option_and_then, if◌then◌else◌, codes}
use Rattle.std.proofs.lemmas.List.Elements.{All-nil, All-cons, All-append, All-head, All-tail}
use Rattle.std.specs.List.{list_any, flat_map}
use Rattle.std.specs.Option.{option_zip}
use Rattle.cudf_text.specs.declared.fault.Fault.{Fault}
use Rattle.cudf_text.specs.declared.fault.Kind.{Kind}
use Rattle.cudf_text.specs.declared.fault.Kind.TheVariants.{E4, E5, E6, E7, E8, E9, E10, E11, E12, E14, E15, E16}
use Rattle.cudf_text.specs.LineFaults.{read_lines}
use Rattle.cudf_text.specs.Stanzas.{PlainProperty, PlainStanza, stanzas_of, plain_text}
use Rattle.cudf_value.specs.Declarations.{PlainDeclaration}
use Rattle.cudf_value.specs.Numbers.{positive}
use Rattle.cudf_value.specs.Parts.{look_up, trimmed}
use Rattle.cudf_problem.specs.declared.problem.Mode.{Mode}
use Rattle.cudf_problem.specs.declared.problem.Mode.TheVariants.{Lenient, Strict}
use Rattle.cudf_problem.specs.declared.problem.Postmark.{Postmark}
use Rattle.cudf_problem.specs.declared.problem.Postmark.TheVariants.{Preamble, Package}
use Rattle.cudf_problem.specs.Documents.{is_empty, with_earlier, postmark, marks, is_request, has_name, value_of}
use Rattle.cudf_problem.specs.Ids.{Id, id_of, is_known}
use Rattle.cudf_problem.specs.Preamble.{declared, declared_by, declared_after}
use Rattle.cudf_problem.specs.Values.{name_value}
use Rattle.cudf_document.specs.Faults.{fault_if}
use Rattle.cudf_document.specs.ProblemFaults.{types_in, declares, repeats, property_faults, place_faults, required_names, missing_faults, problem_misplaces, misplaced_faults, inner_faults, stanza_faults, repeated_package_faults}
use Rattle.cudf_document.specs.SolutionFaults.{solution_types, value_faults, values_faults, undeclared_in_solution, solution_misplaces, solution_stanza_faults}
use Rattle.cudf_document.specs.Promises.Laws.{IsFoundAt, AllAreFound, FaultsAreFound}
use Rattle.cudf_document.specs.Working.Judging.{is_mistyped, line_of, lacks_one, version_property}
use Rattle.cudf_document.specs.Working.DeclaredNames.{is_known_name}
use Rattle.cudf_document.proofs.FoundLemmas.{Within, IsOrdered, IsFound, stanzas_found, properties_found}

-- the line is one of a stanza's
abbrev Inside : PlainStanza → ℕ → Type 0
Inside s line = (s.line ≤ line) × (line ≤ s.last)

abbrev HasFault : PlainStanza → Fault → Type 0
HasFault s f = Inside s f.line

module _ (s : PlainStanza) (ordered : IsOrdered s) where
  on_first : Inside s s.line
  on_first = (omega arith, ordered.ends)

  on_last : Inside s s.last
  on_last = (ordered.ends, omega arith)

  in_if : (kind : Kind) (test : Bool) (n : ℕ) → (test ≡ true → Inside s n) → All (HasFault s) (fault_if test n kind)
  in_if kind false n inside = All-nil (HasFault s)
  in_if kind true n inside = All-cons (HasFault s) (record { line = n; kind = kind }) [] (inside refl) (All-nil (HasFault s))

  in_both : (fs gs : List Fault) → All (HasFault s) fs → All (HasFault s) gs → All (HasFault s) (fs ++ gs)
  in_both fs gs front back = All-append (HasFault s) fs gs front back

  in_place_or : (place fs : List Fault) → All (HasFault s) place → All (HasFault s) fs → All (HasFault s) (if is_empty place then fs else place)
  in_place_or [] fs place inner = inner
  in_place_or (f ∷ place) fs first inner = first

  -- faults of properties, each with those before it
  in_each : (faults : List PlainProperty × PlainProperty → List Fault) → ((x : List PlainProperty × PlainProperty) → Inside s x.1.line → All (HasFault s) (faults x))
      → (before ps : List PlainProperty) → Within s.line s.last ps → All (HasFault s) (flat_map faults (with_earlier before ps))
  in_each faults one before [] w = All-nil (HasFault s)
  in_each faults one before (p ∷ ps) w = in_both (faults (before, p)) _ (one (before, p) w.0) (in_each faults one (before ++ p ∷ []) ps w.1)

  in_misplaced : (mode : Mode) (misplaces : List ℕ → Bool) (ps : List PlainProperty) → Within s.line s.last ps → All (HasFault s) (misplaced_faults mode misplaces ps)
  in_misplaced Lenient misplaces ps w = All-nil (HasFault s)
  in_misplaced Strict misplaces [] w = All-nil (HasFault s)
  in_misplaced Strict misplaces (p ∷ ps) w =
      in_both (fault_if (misplaces p.name) p.line E16) _ (in_if E16 (misplaces p.name) p.line (λ h. w.0)) (in_misplaced Strict misplaces ps w.1)

  -- the line of a property that is there
  in_found : (test : PlainProperty → Bool) (ps : List PlainProperty) → Within s.line s.last ps → (p : PlainProperty) → find test ps ≡ Some p → Inside s p.line
  in_found test [] w p is = absurd cc
  in_found test (q ∷ ps) w p is = by (in_found test ps w.1 p) (test q) is
    where
      by : (find test ps ≡ Some p → Inside s p.line) → (b : Bool) → (if b then Some q else find test ps) ≡ Some p → Inside s p.line
      by later true same = let first : q ≡ p = cc in subst (λ r. Inside s r.line) first w.0
      by later false more = later more

  -- a stanza that has a name and a version has the line of the version
  no_id : version_property s ≡ None → id_of s ≡ None
  no_id none = by (marks Package (postmark s)) (value_of name_value (codes "package") s.properties)
    where
      no_version : value_of (trimmed positive) (codes "version") s.properties ≡ None
      no_version = ap (option_and_then (λ p. trimmed positive p.value)) none

      by : (b : Bool) (name : Option (List ℕ)) → (if b then option_zip name (value_of (trimmed positive) (codes "version") s.properties) else None) ≡ None
      by false name = refl
      by true None = refl
      by true (Some n) = ap (option_zip (Some n)) no_version

  on_version : (ids : List Id) → is_known ids (id_of s) ≡ true → Inside s (line_of (version_property s))
  on_version ids known = by (version_property s) refl
    where
      by : (o : Option PlainProperty) → version_property s ≡ o → Inside s (line_of o)
      by None none = let unknown : is_known ids (id_of s) ≡ false = ap (is_known ids) (no_id none) in absurd cc
      by (Some p) is = in_found (has_name (codes "version")) s.properties ordered.within p is

  in_unversioned : All (HasFault s) (fault_if (marks Package (postmark s) && is_none (version_property s)) s.last E12)
  in_unversioned = in_if E12 (marks Package (postmark s) && is_none (version_property s)) s.last (λ h. on_last)

  -- ---- a problem

  in_property : (ds : List PlainDeclaration) (mark : Option Postmark) (x : List PlainProperty × PlainProperty) → Inside s x.1.line → All (HasFault s) (property_faults ds mark x)
  in_property ds mark (before, p) inside =
      let one : (kind : Kind) (test : Bool) → All (HasFault s) (fault_if test p.line kind) = λ kind test. in_if kind test p.line (λ h. inside) in
      in_both _ _ (in_both _ _ (in_both _ _ (one E7 (repeats before p && not (declares mark p))) (one E8 (marks Package mark && is_none (look_up p.name (types_in ds mark)))))
      (one E9 (is_mistyped (look_up p.name (types_in ds mark)) p.value))) (one E10 (declares mark p && is_none (declared_by (declared_after [] before) p.value)))

  in_missing : (required : List (List ℕ)) → All (HasFault s) (missing_faults required s)
  in_missing required = in_if E14 (lacks_one required s.properties && marks Package (postmark s)) s.last (λ h. on_last)

  in_problem : (mode : Mode) (before : List PlainStanza) → All (HasFault s) (stanza_faults mode (before, s))
  in_problem mode before =
      let ds = declared before in
      let place = in_both _ _ (in_both _ _ (in_if E4 (is_none (postmark s)) s.line (λ h. on_first))
      (in_if E5 (marks Preamble (postmark s) && not (is_empty before)) s.line (λ h. on_first))) (in_if E6 (list_any is_request before) s.line (λ h. on_first)) in
      let each = in_each (property_faults ds (postmark s)) (in_property ds (postmark s)) [] s.properties ordered.within in
      let repeated = in_if E11 (is_known (filter_map id_of before) (id_of s)) (line_of (version_property s)) (on_version (filter_map id_of before)) in
      in_place_or (place_faults before s) (inner_faults mode before s) place
      (in_both _ _ (in_both _ _ (in_both _ _ (in_both _ _ (in_missing (required_names mode ds)) each) repeated) in_unversioned)
      (in_misplaced mode (problem_misplaces (postmark s)) s.properties ordered.within))

  -- ---- a solution

  in_value : (x : List PlainProperty × PlainProperty) → Inside s x.1.line → All (HasFault s) (value_faults x)
  in_value (before, p) inside =
      in_both _ _ (in_if E7 (repeats before p && is_some (look_up p.name solution_types)) p.line (λ h. inside))
      (in_if E9 (is_mistyped (look_up p.name solution_types) p.value) p.line (λ h. inside))

  in_values : (mark : Option Postmark) → All (HasFault s) (values_faults mark s.properties)
  in_values mark = by (marks Package mark)
    where
      by : (b : Bool) → All (HasFault s) (if b then flat_map value_faults (with_earlier [] s.properties) else [])
      by true = in_each value_faults in_value [] s.properties ordered.within
      by false = All-nil (HasFault s)

  in_undeclared : (mode : Mode) (names : List (List ℕ)) (mark : Option Postmark) (ps : List PlainProperty) → Within s.line s.last ps
      → All (HasFault s) (undeclared_in_solution mode names mark ps)
  in_undeclared Lenient names mark ps w = All-nil (HasFault s)
  in_undeclared Strict names (Some Package) [] w = All-nil (HasFault s)
  in_undeclared Strict names (Some Package) (p ∷ ps) w =
      in_both (fault_if (not (is_known_name names p.name)) p.line E8) _ (in_if E8 (not (is_known_name names p.name)) p.line (λ h. w.0))
      (in_undeclared Strict names (Some Package) ps w.1)
  in_undeclared Strict names _ ps w = All-nil (HasFault s)

  in_solution : (mode : Mode) (names : List (List ℕ)) (before : List PlainStanza) → All (HasFault s) (solution_stanza_faults mode names s ++ repeated_package_faults E15 (before, s))
  in_solution mode names before =
      in_both _ _ (in_both _ _ (in_both _ _ (in_both _ _ (in_both _ _ (in_if E4 (is_none (postmark s)) s.line (λ h. on_first)) (in_values (postmark s))) in_unversioned)
      (in_misplaced mode (solution_misplaces (postmark s)) s.properties ordered.within)) (in_undeclared mode names (postmark s) s.properties ordered.within))
      (in_if E15 (is_known (filter_map id_of before) (id_of s)) (line_of (version_property s)) (on_version (filter_map id_of before)))

-- ---- the law

-- faults on lines of a stanza find it
all_found : (stanzas : List PlainStanza) (x : List PlainStanza × PlainStanza) → IsFound stanzas x → (fs : List Fault) → All (HasFault x.1) fs → All (IsFoundAt stanzas x) fs
all_found stanzas x is [] inside = All-nil (IsFoundAt stanzas x)
all_found stanzas x is (f ∷ fs) inside =
    let one = All-head (HasFault x.1) f fs inside in
    All-cons (IsFoundAt stanzas x) f fs (is.found f.line one.0 one.1) (all_found stanzas x is fs (All-tail (HasFault x.1) f fs inside))

for_each : {A : Type 0} (P Q : A → Type 0) → ((x : A) → P x → Q x) → (xs : List A) → All P xs → All Q xs
for_each P Q step [] all = All-nil Q
for_each P Q step (x ∷ xs) all = All-cons Q x xs (step x (All-head P x xs all)) (for_each P Q step xs (All-tail P x xs all))

pub faults_are_found : FaultsAreFound
unfolding plain_text
faults_are_found source = by (stanzas_of (read_lines source)) (stanzas_found source)
  where
    by : (stanzas : List PlainStanza) → All (IsFound stanzas) (with_earlier [] stanzas) → AllAreFound stanzas
    by stanzas found = record {
      problem = λ mode. for_each (IsFound stanzas) _ (λ x is. all_found stanzas x is (stanza_faults mode x) (in_problem x.1 is.ordered mode x.0)) (with_earlier [] stanzas) found;
      solution = λ mode names. for_each (IsFound stanzas) _ (λ x is. all_found stanzas x is (solution_stanza_faults mode names x.1 ++ repeated_package_faults E15 x) (in_solution x.1 is.ordered mode names x.0)) (with_earlier [] stanzas) found;
      property = for_each (IsFound stanzas) _ (λ x is. properties_found x.1 is.ordered) (with_earlier [] stanzas) found;
    }
