-- What is known of stanzas on the walk: as of those that are gathered.
use Rattle.std.proofs.Common.{◌≡◌, ℕ, max, map, filter_map, Bool, true, false, not, ◌||◌, List, [], ◌∷◌, ◌++◌, Option, Some, None, refl, sym, ap, subst, ◌∙◌, IsTrue, Result, Ok, Err, OnOk}
use Rattle.std.specs.List.{list_any, flat_map}
use Rattle.std.specs.Option.{option_or}
use Rattle.std.proofs.Math.Bool.{or-false, or_comm}
use Rattle.std.proofs.lemmas.List.Folds.{list_any-append}
use Rattle.cudf_text.specs.declared.fault.Fault.{Fault}
use Rattle.cudf_text.specs.Stanzas.{PlainStanza, PlainText}
use Rattle.cudf_problem.specs.declared.problem.Mode.{Mode}
use Rattle.cudf_problem.specs.declared.problem.Mode.TheVariants.{Lenient, Strict}
use Rattle.cudf_document.specs.declared.problem.walk.ProblemState.{ProblemState}
use Rattle.cudf_problem.specs.declared.problem.Postmark.{Postmark}
use Rattle.cudf_problem.specs.declared.problem.Postmark.TheVariants.{Preamble, Package, Request}
use Rattle.cudf_document.specs.Faults.{lesser, least, fault_if}
use Rattle.cudf_text.specs.declared.fault.Kind.TheVariants.{E13}
use Rattle.std.proofs.lemmas.List.{append_assoc, append-nil}
use Rattle.cudf_problem.specs.Documents.{is_empty, with_earlier, postmark, is_request, marks}
use Rattle.cudf_problem.specs.Ids.{is_id, id_of}
use Rattle.cudf_problem.specs.Preamble.{declared}
use Rattle.cudf_problem.specs.Promises.Packages.{is_preamble, packages_in}
use Rattle.cudf_document.specs.ProblemFaults.{required_names, problem_misplaces, misplaced_faults, stanza_faults}
use Rattle.cudf_document.specs.Working.Judging.{request_in, placed_faults, properties_faults}
use Rattle.cudf_problem.specs.Universe.{package_id}
use Rattle.cudf_document.specs.Working.ProblemBuilders.{PlainBuilder, with_stanza, faults_inside, IsBuilt, first_ids}
use Rattle.cudf_document.specs.Working.Walks.{IsKnown, IsSoFar, GoesOn, IsWhole, judged_faults, judged_ids}
use Rattle.cudf_problem.proofs.ListLemmas.{is_empty-push}
use Rattle.cudf_document.proofs.FaultLemmas.{faults-next}
use Rattle.cudf_document.proofs.BuilderLemmas.{problem_least, requested_is, stanza_least, IsBuilt-next, listed_next}

-- ---- the walk

abbrev as_builder : ProblemState → List PlainStanza → PlainBuilder
as_builder k before = record { declared = k.declarations; ids = k.ids; packages = packages_in before; request = request_in before }

is_built : (mode : Mode) (k : ProblemState) (before : List PlainStanza) → IsKnown mode k before → k.declarations ≡ declared before → IsBuilt (as_builder k before) before
is_built mode k before so_far ds = record { declared_are = ds; ids_are = so_far.ids_are; packages_are = refl; request_is = refl }

judged_inside : (mark : Option Postmark) (required : List (List ℕ)) (k : ProblemState) (before : List PlainStanza) (s : PlainStanza)
    → judged_faults mark required k.declarations k.ids s ≡ faults_inside mark required (as_builder k before) s
judged_inside (Some Package) required k before s = refl
judged_inside _ required k before s = refl

ids_inside : (mark : Option Postmark) (is_first : Bool) (k : ProblemState) (before : List PlainStanza) (s : PlainStanza) → judged_ids mark k.ids s ≡ (with_stanza mark is_first s (as_builder k before)).ids
ids_inside (Some Package) is_first k before s = refl
ids_inside _ is_first k before s = refl

pub IsKnown-next : (mode : Mode) (required : List (List ℕ)) (old new : ProblemState) (before : List PlainStanza) (s : PlainStanza) (mark : Option Postmark) (is_first : Bool) (place inside stray : Option Fault)
    → is_first ≡ is_empty before → old.declarations ≡ declared before → required ≡ required_names mode (declared before) → IsKnown mode old before → mark ≡ postmark s
    → place ≡ least (placed_faults is_first old.requested mark s.line) → inside ≡ least (judged_faults mark required old.declarations old.ids s)
    → stray ≡ least (misplaced_faults mode (problem_misplaces mark) s.properties)
    → new.first ≡ lesser old.first (option_or place (lesser inside stray)) → new.ids ≡ judged_ids mark old.ids s → new.requested ≡ (marks Request mark || old.requested)
    → IsKnown mode new (before ++ s ∷ [])
IsKnown-next mode required old new before s mark is_first place inside stray first ds required_are so_far marked place_is inside_is stray_is first_is ids_are requested =
    let g = as_builder old before in
    let builder = is_built mode old before so_far ds in
    let was = requested_is g before builder in
    record {
      first_is = first_is ∙ faults-next (stanza_faults mode) before s old.first (option_or place (lesser inside stray)) so_far.first_is
          (stanza_least g before s builder mode mark is_first place inside stray (sym marked) first
          (place_is ∙ ap (λ late. least (placed_faults is_first late mark s.line)) (so_far.requested_is ∙ sym was))
          (inside_is ∙ ap (λ names. least (judged_faults mark names old.declarations old.ids s)) required_are
          ∙ ap least (judged_inside mark (required_names mode (declared before)) old before s))
          stray_is);
      ids_are = λ id.
          ap (λ l. list_any (is_id id) l) (ids_are ∙ ids_inside mark is_first old before s)
          ∙ (IsBuilt-next g before s builder mark is_first (sym marked) first).ids_are id;
      listed_are = ids_are ∙ ids_inside mark is_first old before s ∙ listed_next mark is_first s g so_far.listed_are
          ∙ ap (λ l. first_ids [] (map package_id l)) (IsBuilt-next g before s builder mark is_first (sym marked) first).packages_are;
      requested_is = requested ∙ or_comm (marks Request mark) old.requested
          ∙ (λ i. so_far.requested_is i || (ap (marks Request) marked ∙ sym (or-false (is_request s))) i)
          ∙ sym (list_any-append is_request before (s ∷ []));
    }

declared_later : (before : List PlainStanza) (s : PlainStanza) → false ≡ is_empty before → declared (before ++ s ∷ []) ≡ declared before
declared_later [] s some = absurd cc
declared_later (t ∷ before) s some = refl

pub required_none : (mode : Mode) → [] ≡ required_names mode []
required_none Lenient = refl
required_none Strict = refl

-- a preamble that is first
preamble_mark : (mark : Option Postmark) → marks Preamble mark ≡ true → mark ≡ Some Preamble
preamble_mark (Some Preamble) h = refl
preamble_mark _ h = absurd cc

IsKnown-preamble : (mode : Mode) (old new : ProblemState) (s : PlainStanza) → is_preamble s ≡ true → old.declarations ≡ [] → IsKnown mode old []
    → new.first ≡ lesser old.first (lesser (least (properties_faults [] (Some Preamble) s.properties)) (least (misplaced_faults mode (problem_misplaces (Some Preamble)) s.properties)))
    → new.ids ≡ old.ids → new.requested ≡ old.requested
    → IsKnown mode new (s ∷ [])
IsKnown-preamble mode old new s marked ds so_far first ids requested =
    IsKnown-next mode [] old new [] s (Some Preamble) true None (least (properties_faults [] (Some Preamble) s.properties))
    (least (misplaced_faults mode (problem_misplaces (Some Preamble)) s.properties)) refl ds (required_none mode) so_far
    (sym (preamble_mark (postmark s) marked))
    (ap (λ late. least (placed_faults true late (Some Preamble) s.line)) (sym so_far.requested_is)) refl refl first ids requested

pub IsKnown-head : {A E : Type 0} (r : Result A E) (mode : Mode) (old new : ProblemState) (s : PlainStanza) → is_preamble s ≡ true → old.declarations ≡ [] → IsKnown mode old []
    → OnOk r (new.first ≡ lesser old.first (lesser (least (properties_faults [] (Some Preamble) s.properties)) (least (misplaced_faults mode (problem_misplaces (Some Preamble)) s.properties))))
    → OnOk r (new.ids ≡ old.ids) → OnOk r (new.requested ≡ old.requested) → OnOk r (IsKnown mode new (s ∷ []))
IsKnown-head (Ok v) mode old new s marked ds so_far first ids requested = IsKnown-preamble mode old new s marked ds so_far first ids requested
IsKnown-head (Err e) mode old new s marked ds so_far first ids requested = tt

-- where there is no fault now, there was none before
pub none_before : (x y : Option Fault) → lesser x y ≡ None → x ≡ None
none_before None y h = refl
none_before (Some f) None h = absurd cc
none_before (Some f) (Some g) h = absurd cc

none_behind : (x y : Option Fault) → lesser x y ≡ None → y ≡ None
none_behind None y h = h
none_behind (Some f) None h = absurd cc
none_behind (Some f) (Some g) h = absurd cc

-- nothing is left after these stanzas
all_known : (mode : Mode) (Kept : List PlainStanza → Type 0) (old new : ProblemState) (now : List PlainStanza) (left text : PlainText) (fault : Option Fault) (lines : ℕ)
    → old.declarations ≡ declared now → IsKnown mode old now → (old.first ≡ None → Kept now)
    → ◌≡◌ {A = PlainText} (record left { stanzas = now ++ left.stanzas }) text → ◌≡◌ {A = PlainText} left (record { stanzas = []; fault = fault; lines = lines })
    → new.first ≡ lesser (lesser fault old.first) (least (fault_if (not old.requested) (max 1 lines) E13))
    → new.declarations ≡ old.declarations → new.ids ≡ old.ids → IsWhole mode Kept new text
all_known mode Kept old new now left text fault lines ds knows keeps whole read first same_ds same_ids =
    let end : ◌≡◌ {A = PlainText} (record { stanzas = now ++ []; fault = fault; lines = lines }) text =
    (λ i. let t : PlainText = record (sym read i) { stanzas = now ++ (sym read i).stanzas } in t) ∙ whole in
    let ss : now ≡ text.stanzas = sym (append-nil now) ∙ (λ i. (end i).stanzas) in
    record {
      first_is = first
          ∙ (λ i. lesser (lesser ((end i).fault) old.first) (least (fault_if (not old.requested) (max 1 lines) E13)))
          ∙ problem_least text mode old.first (not old.requested) (max 1 lines)
          (knows.first_is ∙ ap (λ l. least (flat_map (stanza_faults mode) (with_earlier [] l))) ss)
          (ap not (knows.requested_is ∙ ap (list_any is_request) ss))
          (λ i. max 1 (end i).lines);
      declared_are = same_ds ∙ ds ∙ ap declared ss;
      ids_are = λ id. ap (λ l. list_any (is_id id) l) same_ids ∙ knows.ids_are id ∙ ap (λ l. list_any (is_id id) (filter_map id_of l)) ss;
      listed_are = same_ids ∙ knows.listed_are ∙ ap (λ l. first_ids [] (map package_id (packages_in l))) ss;
      kept = λ none.
          subst Kept ss (keeps (none_behind fault old.first (none_before (lesser fault old.first) (least (fault_if (not old.requested) (max 1 lines) E13)) (sym first ∙ none))));
    }

-- ---- one stanza more

pub IsSoFar-none : (mode : Mode) (Kept : List PlainStanza → Type 0) (k : ProblemState) → k.declarations ≡ [] → IsKnown mode k [] → Kept [] → IsSoFar mode Kept k []
IsSoFar-none mode Kept k ds knows keeps = record { declared_are = ds; known = knows; kept = λ none. keeps }

pub IsSoFar-first : {A E : Type 0} (r : Result A E) (mode : Mode) (Old New : List PlainStanza → Type 0) (old new : ProblemState) (before : List PlainStanza) (s : PlainStanza)
    → true ≡ is_empty before → IsSoFar mode Old old before
    → (old.declarations ≡ [] → IsKnown mode old [] → OnOk r (IsKnown mode new (s ∷ [])))
    → (old.declarations ≡ [] → OnOk r (new.declarations ≡ declared (s ∷ [])))
    → OnOk r (new.first ≡ None → old.first ≡ None)
    → (old.declarations ≡ [] → old.first ≡ None → Old [] → OnOk r (New (s ∷ [])))
    → OnOk r (IsSoFar mode New new (before ++ s ∷ []))
IsSoFar-first (Ok v) mode Old New old new [] s first so_far knows ds was keeps = record {
  declared_are = ds so_far.declared_are;
  known = knows so_far.declared_are so_far.known;
  kept = λ none. keeps so_far.declared_are (was none) (so_far.kept (was none));
}
IsSoFar-first (Err e) mode Old New old new [] s first so_far knows ds was keeps = tt
IsSoFar-first r mode Old New old new (t ∷ before) s first so_far knows ds was keeps = absurd cc

pub IsSoFar-next : {A E : Type 0} (r : Result A E) (mode : Mode) (Old New : List PlainStanza → Type 0) (old new : ProblemState) (before : List PlainStanza) (s : PlainStanza)
    → false ≡ is_empty before → IsSoFar mode Old old before
    → OnOk r (IsKnown mode new (before ++ s ∷ []))
    → OnOk r (new.declarations ≡ old.declarations)
    → OnOk r (new.first ≡ None → old.first ≡ None)
    → (old.first ≡ None → Old before → OnOk r (New (before ++ s ∷ [])))
    → OnOk r (IsSoFar mode New new (before ++ s ∷ []))
IsSoFar-next (Ok v) mode Old New old new before s later so_far knows same was keeps = record {
  declared_are = same ∙ so_far.declared_are ∙ sym (declared_later before s later);
  known = knows;
  kept = λ none. keeps (was none) (so_far.kept (was none));
}
IsSoFar-next (Err e) mode Old New old new before s later so_far knows same was keeps = tt

pub IsSoFar-end : (mode : Mode) (Kept : List PlainStanza → Type 0) (old new : ProblemState) (text : PlainText) → IsSoFar mode Kept old text.stanzas
    → new.first ≡ lesser (lesser text.fault old.first) (least (fault_if (not old.requested) (max 1 text.lines) E13))
    → new.declarations ≡ old.declarations → new.ids ≡ old.ids → IsWhole mode Kept new text
IsSoFar-end mode Kept old new text so_far first same_ds same_ids =
    all_known mode Kept old new text.stanzas (record { stanzas = []; fault = text.fault; lines = text.lines }) text text.fault text.lines
    so_far.declared_are so_far.known so_far.kept
    (λ i. let t : PlainText = record text { stanzas = append-nil text.stanzas i } in t) refl first same_ds same_ids

-- what is required by these stanzas, after one more
pub required_next : (mode : Mode) (is_first : Bool) (old new : List (List ℕ)) (k : ProblemState) (before : List PlainStanza) (s : PlainStanza) → is_first ≡ is_empty before
    → k.declarations ≡ declared (before ++ s ∷ []) → old ≡ required_names mode (declared before)
    → (IsTrue is_first → new ≡ required_names mode k.declarations) → (IsTrue (not is_first) → new ≡ old) → new ≡ required_names mode (declared (before ++ s ∷ []))
required_next mode true old new k [] s first ds old_is here later = here refl ∙ ap (required_names mode) ds
required_next mode false old new k [] s first ds old_is here later = absurd cc
required_next mode true old new k (t ∷ before) s first ds old_is here later = absurd cc
required_next mode false old new k (t ∷ before) s first ds old_is here later = later refl ∙ old_is

-- ---- the stanzas of a text, one after the other

pub GoesOn-start : (mode : Mode) (Kept : List PlainStanza → Type 0) (k : ProblemState) (required : List (List ℕ)) (text : PlainText)
    → IsSoFar mode Kept k [] → required ≡ [] → GoesOn mode Kept k true required text text
GoesOn-start mode Kept k required text start none = record {
  now = [];
  first_is = refl;
  required_are = none ∙ required_none mode;
  so_far = start;
  whole = refl;
}

pub GoesOn-next : (mode : Mode) (Old New : List PlainStanza → Type 0) (old new : ProblemState) (is_first : Bool) (before required : List (List ℕ)) (left later text : PlainText) (s : PlainStanza)
    → GoesOn mode Old old is_first before left text
    → ◌≡◌ {A = PlainText} left (record later { stanzas = s ∷ later.stanzas })
    → ((now : List PlainStanza) → is_first ≡ is_empty now → before ≡ required_names mode (declared now) → IsSoFar mode Old old now → IsSoFar mode New new (now ++ s ∷ []))
    → (IsTrue is_first → required ≡ required_names mode new.declarations) → (IsTrue (not is_first) → required ≡ before)
    → GoesOn mode New new false required later text
GoesOn-next mode Old New old new is_first before required left later text s goes read takes here behind =
    let so_far = takes goes.now goes.first_is goes.required_are goes.so_far in
    record {
      now = goes.now ++ s ∷ [];
      first_is = sym (is_empty-push goes.now s);
      required_are = required_next mode is_first before required new goes.now s goes.first_is so_far.declared_are goes.required_are here behind;
      so_far = so_far;
      whole = (λ i. let t : PlainText = record later { stanzas = append_assoc goes.now (s ∷ []) later.stanzas i } in t)
          ∙ (λ i. let t : PlainText = record (sym read i) { stanzas = goes.now ++ (sym read i).stanzas } in t) ∙ goes.whole;
    }

pub GoesOn-end : (mode : Mode) (Kept : List PlainStanza → Type 0) (old new : ProblemState) (is_first : Bool) (required : List (List ℕ)) (left text : PlainText) (fault : Option Fault) (lines : ℕ)
    → GoesOn mode Kept old is_first required left text
    → ◌≡◌ {A = PlainText} left (record { stanzas = []; fault = fault; lines = lines })
    → new.first ≡ lesser (lesser fault old.first) (least (fault_if (not old.requested) (max 1 lines) E13))
    → new.declarations ≡ old.declarations → new.ids ≡ old.ids → IsWhole mode Kept new text
GoesOn-end mode Kept old new is_first required left text fault lines goes read first same_ds same_ids =
    all_known mode Kept old new goes.now left text fault lines goes.so_far.declared_are goes.so_far.known goes.so_far.kept goes.whole read first same_ds same_ids
