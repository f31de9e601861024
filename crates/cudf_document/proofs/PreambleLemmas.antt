-- The properties of a preamble, one after the other.
use Rattle.std.proofs.Common.{◌≡◌, ℕ, List, [], ◌∷◌, ◌++◌, Option, None, Some, is_none, refl, sym, ap, ◌∙◌, if◌then◌else◌, bytes_eq, codes}
use Rattle.std.specs.List.{list_any}
use Rattle.indexmap.specs.IndexSet.{insert_key}
use Rattle.cudf_text.specs.declared.fault.Fault.{Fault}
use Rattle.cudf_text.specs.declared.fault.Kind.TheVariants.{E7, E10}
use Rattle.cudf_text.specs.Stanzas.{PlainProperty}
use Rattle.cudf_value.specs.Declarations.{PlainDeclaration}
use Rattle.cudf_problem.specs.declared.problem.Postmark.TheVariants.{Preamble as PreambleMark}
use Rattle.cudf_document.specs.Faults.{lesser}
use Rattle.cudf_problem.specs.Documents.{has_name}
use Rattle.cudf_document.specs.Working.Judging.{same_name, added_by}
use Rattle.cudf_problem.specs.Preamble.{declared_by, declared_after}
use Rattle.cudf_document.specs.Working.PackageFields.{fault_on}
use Rattle.cudf_document.specs.Working.ProblemBuilders.{preamble_kind_after, is_bad_declaration}
use Rattle.cudf_document.proofs.PropertyLemmas.{IsJudgedTo, IsJudgedTo-next, preamble_property}

-- what is declared after one more property
pub declared_after-push : (before : List PlainDeclaration) (ps : List PlainProperty) (p : PlainProperty)
    → declared_after before (ps ++ p ∷ []) ≡ declared_after before ps ++ added_by (declared_after before ps) p
declared_after-push before [] p = refl
declared_after-push before (q ∷ ps) p = declared_after-push (before ++ added_by before q) ps p

-- what is known of the properties so far
pub record IsDeclaredTo (ps : List PlainProperty) (names : List (List ℕ)) (first : Option Fault) (ds : List PlainDeclaration) : Type 0 where
  pub judged : IsJudgedTo [] (Some PreambleMark) ps names first
  pub declared_are : ds ≡ declared_after [] ps

-- one more property
pub IsDeclaredTo-next : (ps : List PlainProperty) (names : List (List ℕ)) (first : Option Fault) (ds : List PlainDeclaration) (p : PlainProperty)
    (more : List PlainProperty) (new_names : List (List ℕ)) (fault new_first : Option Fault) (new_ds : List PlainDeclaration)
    → IsDeclaredTo ps names first ds → more ≡ ps ++ p ∷ [] → new_names ≡ insert_key bytes_eq names p.name
    → fault ≡ fault_on p.line (preamble_kind_after ds names p) → new_first ≡ lesser first fault → new_ds ≡ ds ++ added_by ds p
    → IsDeclaredTo more new_names new_first new_ds
IsDeclaredTo-next ps names first ds p more new_names fault new_first new_ds so_far more_is names_is fault_is lesser_is ds_is = record {
  judged = IsJudgedTo-next [] (Some PreambleMark) ps names first p more new_names fault new_first so_far.judged more_is names_is
      (fault_is
      ∙ ap (fault_on p.line) (λ i. if has_name (codes "property") p then (if is_bad_declaration (so_far.declared_are i) p then Some E10 else None)
      else (if so_far.judged.names_are p.name i then Some E7 else None))
      ∙ sym (preamble_property p.line (list_any (same_name p) ps) (has_name (codes "property") p) (is_none (declared_by (declared_after [] ps) p.value))))
      lesser_is;
  declared_are = ds_is ∙ ap (λ l. l ++ added_by l p) so_far.declared_are ∙ sym (declared_after-push [] ps p) ∙ ap (declared_after []) (sym more_is);
}
