-- What is kept of stanzas on the walk.
use Rattle.std.proofs.Common.{◌≡◌, Bool, true, false, List, [], ◌∷◌, ◌++◌, map, filter_map, Option, Some, None, option_map, option_to_list, is_some, find, if◌then◌else◌, refl, sym, ap, ◌∙◌}
use Rattle.std.proofs.lemmas.Bool.{true≢false}
use Rattle.cudf_text.specs.Stanzas.{PlainStanza, PlainText}
use Rattle.cudf_value.specs.Declarations.{PlainDeclaration}
use Rattle.cudf_problem.specs.declared.problem.Mode.{Mode}
use Rattle.cudf_document.specs.declared.problem.keeping.ProblemBuilder.{ProblemBuilder}
use Rattle.cudf_document.specs.declared.problem.walk.ProblemState.{ProblemState}
use Rattle.cudf_problem.specs.declared.problem.Postmark.{Postmark}
use Rattle.cudf_problem.specs.declared.problem.Postmark.TheVariants.{Preamble, Package, Request}
use Rattle.cudf_problem.specs.Documents.{is_empty, postmark, marks, is_request}
use Rattle.cudf_problem.specs.Promises.Packages.{is_package, are_distinct, packages_in}
use Rattle.cudf_problem.specs.Ids.{Id, id_of}
use Rattle.cudf_document.specs.Working.Judging.{request_in, id_under}
use Rattle.cudf_problem.specs.Preamble.{declared}
use Rattle.cudf_problem.specs.Universe.{PlainPackage, PlainRequest, plain_problem, package_id, request_of}
use Rattle.cudf_problem.specs.Promises.Views.{package_view, request_view}
use Rattle.cudf_document.specs.Working.Kept.{AreParts, IsReady, gathered_of}
use Rattle.cudf_document.specs.Working.PackageFields.{package_fields_of, package_from}
use Rattle.cudf_document.specs.Working.ProblemBuilders.{PlainBuilder, with_stanza, problem_of, IsBuilt}
use Rattle.cudf_document.specs.Working.Walks.{IsWhole}
use Rattle.cudf_document.proofs.BuilderLemmas.{IsBuilt-next, all_ids}
use Rattle.cudf_document.proofs.FaultLemmas.{least-none}
use Rattle.cudf_document.proofs.FaultlessLemmas.{has_request, ids_distinct}
use Rattle.cudf_problem.proofs.ListLemmas.{is_some-option_map, is_some-find, IsSome-from}
use Rattle.cudf_document.specs.ProblemFaults.{problem_faults}

abbrev builder : List PlainDeclaration → List PlainPackage → Option PlainRequest → List PlainStanza → PlainBuilder
builder ds packages request before = record { declared = ds; ids = filter_map id_of before; packages = packages; request = request }

gathered : (ds : List PlainDeclaration) (request : Option PlainRequest) (before : List PlainStanza) (s : PlainStanza) (mark : Option Postmark)
    → postmark s ≡ mark → ds ≡ declared before → request ≡ request_in before
    → IsBuilt (with_stanza mark (is_empty before) s (builder ds (packages_in before) request before)) (before ++ s ∷ [])
gathered ds request before s mark marked ds_are request_is =
    IsBuilt-next (builder ds (packages_in before) request before) before s
    (record { declared_are = ds_are; ids_are = λ id. refl; packages_are = refl; request_is = request_is })
    mark (is_empty before) marked refl

pub package_kept : (keeps : Bool) (ds : List PlainDeclaration) (before : List PlainStanza) (s : PlainStanza) (id : Option Id) (old new : ProblemBuilder)
    → postmark s ≡ Some Package → ds ≡ declared before → id ≡ id_under (Some Package) s.properties → AreParts keeps before old
    → new.keeps ≡ old.keeps
    → (old.keeps ≡ true → map package_view new.packages.items ≡ map package_view old.packages.items ++ option_to_list (option_map (package_from s.line (package_fields_of ds s.properties)) id))
    → new.request ≡ old.request → AreParts keeps (before ++ s ∷ []) new
package_kept keeps ds before s id old new marked ds_are id_is was same packages request =
    let next = gathered ds (option_map request_view old.request) before s (Some Package) marked ds_are was.request_is in record {
      keeps_is = same ∙ was.keeps_is;
      packages_are = λ kept. packages (was.keeps_is ∙ kept)
          ∙ (λ i. was.packages_are kept i ++ option_to_list (option_map (package_from s.line (package_fields_of ds s.properties)) (id_is i))) ∙ next.packages_are;
      request_is = ap (option_map request_view) request ∙ next.request_is;
    }

pub request_kept : (keeps : Bool) (before : List PlainStanza) (s : PlainStanza) (old new : ProblemBuilder) → postmark s ≡ Some Request → AreParts keeps before old
    → new.keeps ≡ old.keeps
    → option_map request_view new.request ≡ (if is_some (option_map request_view old.request) then option_map request_view old.request else Some (request_of s))
    → new.packages ≡ old.packages → AreParts keeps (before ++ s ∷ []) new
request_kept keeps before s old new marked was same request packages =
    let next = gathered (declared before) (option_map request_view old.request) before s (Some Request) marked refl was.request_is in record {
      keeps_is = same ∙ was.keeps_is;
      packages_are = λ kept. (λ i. map package_view (packages i).items) ∙ was.packages_are kept ∙ next.packages_are;
      request_is = request ∙ next.request_is;
    }

pub passed : (keeps : Bool) (before : List PlainStanza) (s : PlainStanza) (p : ProblemBuilder)
    → is_package s ≡ false → is_request s ≡ false → AreParts keeps before p → AreParts keeps (before ++ s ∷ []) p
passed keeps before s p no_package no_request was = by (postmark s) refl
  where
    by : (mark : Option Postmark) → postmark s ≡ mark → AreParts keeps (before ++ s ∷ []) p
    by None marked =
        let next = gathered (declared before) (option_map request_view p.request) before s None marked refl was.request_is in
        record { keeps_is = was.keeps_is; packages_are = λ kept. was.packages_are kept ∙ next.packages_are; request_is = next.request_is }
    by (Some Preamble) marked =
        let next = gathered (declared before) (option_map request_view p.request) before s (Some Preamble) marked refl was.request_is in
        record { keeps_is = was.keeps_is; packages_are = λ kept. was.packages_are kept ∙ next.packages_are; request_is = next.request_is }
    by (Some Package) marked = absurd (true≢false (sym (ap (marks Package) marked) ∙ no_package))
    by (Some Request) marked = absurd (true≢false (sym (ap (marks Request) marked) ∙ no_request))

-- ---- the whole text

pub faultless : (mode : Mode) (IsKept : List PlainStanza → Type 0) (w : ProblemState) (text : PlainText) → IsWhole mode IsKept w text → w.first ≡ None → problem_faults text mode ≡ []
faultless mode IsKept w text whole none = least-none (problem_faults text mode) (sym whole.first_is ∙ none)

module _ (p : ProblemBuilder) (w : ProblemState) (text : PlainText) (mode : Mode) (whole : IsWhole mode (λ ss. AreParts true ss p) w text) where
  requested : w.first ≡ None → is_some (gathered_of w p).request ≡ true
  requested none =
      ap is_some (whole.kept none).request_is ∙ is_some-option_map request_of (find is_request text.stanzas) ∙ is_some-find is_request text.stanzas
      ∙ has_request text mode (faultless mode (λ ss. AreParts true ss p) w text whole none)

  -- the names and versions are those of the text's packages
  same_ids : w.first ≡ None → map package_id (gathered_of w p).packages ≡ map package_id (packages_in text.stanzas)
  same_ids none = ap (map package_id) ((whole.kept none).packages_are refl)

  distinct : w.first ≡ None → are_distinct (map package_id (gathered_of w p).packages) ≡ true
  distinct none = ap are_distinct (same_ids none) ∙ ids_distinct text mode (faultless mode (λ ss. AreParts true ss p) w text whole none)

  listed : w.first ≡ None → (gathered_of w p).ids ≡ map package_id (gathered_of w p).packages
  listed none =
      all_ids (record { declared = w.declarations; ids = w.ids; packages = packages_in text.stanzas; request = request_in text.stanzas }) whole.listed_are
      (ids_distinct text mode (faultless mode (λ ss. AreParts true ss p) w text whole none))
      ∙ sym (same_ids none)

  pub ready : w.first ≡ None → IsReady w p
  ready none = record {
    requested = IsSome-from p.request (sym (is_some-option_map request_view p.request) ∙ requested none);
    ids_are = listed none;
    distinct = ap are_distinct (listed none) ∙ distinct none;
  }

  pub problem_is : w.first ≡ None → problem_of (gathered_of w p) ≡ plain_problem text
  unfolding plain_problem
  problem_is none = λ i. problem_of (record {
    declared = whole.declared_are i;
    ids = w.ids;
    packages = (whole.kept none).packages_are refl i;
    request = (whole.kept none).request_is i;
  })
