-- The lists of a request.
use Rattle.std.proofs.Common.{◌≡◌, ℕ, Bool, true, false, List, [], ◌∷◌, ◌++◌, None, Some, refl, sym, ap, ◌∙◌, if◌then◌else◌, bytes_eq, codes}
use Rattle.std.specs.List.{list_any}
use Rattle.cudf_text.specs.declared.fault.Kind.TheVariants.{E7, E9}
use Rattle.cudf_text.specs.Stanzas.{PlainProperty}
use Rattle.cudf_problem.specs.declared.problem.Postmark.TheVariants.{Request as RequestMark}
use Rattle.cudf_document.specs.Faults.{least}
use Rattle.cudf_problem.specs.Documents.{value_of}
use Rattle.cudf_document.specs.Working.Judging.{same_name, fails, is_mistyped}
use Rattle.cudf_problem.specs.Values.{request_types}
use Rattle.cudf_document.specs.Working.Reads.{list_value}
use Rattle.cudf_value.specs.Parts.{look_up}
use Rattle.cudf_document.specs.ProblemFaults.{property_faults}
use Rattle.cudf_document.specs.Working.PackageFields.{fault_on}
use Rattle.cudf_document.specs.Working.RequestFields.{PlainRequestFields, request_property_named, request_property_test, request_fields_of, with_request_property, request_kind_after, request_fields_after}
use Rattle.cudf_document.proofs.NameLemmas.{by_words, value_of-repeated, value_next}
use Rattle.cudf_document.specs.Working.SeenNames.{AreNames}
use Rattle.cudf_document.proofs.PropertyLemmas.{request_property}

abbrev words : List (List ℕ)
words = codes "install" ∷ codes "remove" ∷ codes "upgrade" ∷ []

-- a value isn't of the type of its name where it fails the test of its property
mistyped_request : (name text : List ℕ) → is_mistyped (look_up name request_types) text ≡ fails (request_property_test (request_property_named name)) text
mistyped_request name text =
    by_words (λ n. is_mistyped (look_up n request_types) text ≡ fails (request_property_test (request_property_named n)) text) words name refl refl refl (λ a b c. simp (a, b, c))

-- the lists, each with what a text says of it, where the name is its own
abbrev says : List PlainProperty → List ℕ → List ℕ → PlainRequestFields
says ps text name = record {
  install = if bytes_eq name (codes "install") then list_value text else value_of list_value (codes "install") ps;
  remove = if bytes_eq name (codes "remove") then list_value text else value_of list_value (codes "remove") ps;
  upgrade = if bytes_eq name (codes "upgrade") then list_value text else value_of list_value (codes "upgrade") ps;
}

with_request_property-says : (ps : List PlainProperty) (text name : List ℕ) → with_request_property (request_property_named name) text (request_fields_of ps) ≡ says ps text name
with_request_property-says ps text name =
    by_words (λ n. with_request_property (request_property_named n) text (request_fields_of ps) ≡ says ps text n) words name refl refl refl (λ a b c. simp (a, b, c))

request_fields_of-next : (ps : List PlainProperty) (p : PlainProperty)
    → (if list_any (same_name p) ps then request_fields_of ps else with_request_property (request_property_named p.name) p.value (request_fields_of ps)) ≡ request_fields_of (ps ++ p ∷ [])
request_fields_of-next ps p = by (list_any (same_name p) ps) refl
  where
    by : (b : Bool) → list_any (same_name p) ps ≡ b
        → (if b then request_fields_of ps else with_request_property (request_property_named p.name) p.value (request_fields_of ps)) ≡ request_fields_of (ps ++ p ∷ [])
    by true again = sym (λ i. record {
      install = value_of-repeated list_value (codes "install") ps p again i;
      remove = value_of-repeated list_value (codes "remove") ps p again i;
      upgrade = value_of-repeated list_value (codes "upgrade") ps p again i;
    })
    by false new = with_request_property-says ps p.value p.name ∙ sym (λ i. record {
      install = value_next list_value (codes "install") ps p new i;
      remove = value_next list_value (codes "remove") ps p new i;
      upgrade = value_next list_value (codes "upgrade") ps p new i;
    })

-- what is wrong with one more property
pub request_fault : (ps : List PlainProperty) (names : List (List ℕ)) (p : PlainProperty) → AreNames names ps
    → fault_on p.line (request_kind_after names p) ≡ least (property_faults [] (Some RequestMark) (ps, p))
request_fault ps names p names_are =
    ap (fault_on p.line) (λ i. if names_are p.name i then Some E7 else (if sym (mistyped_request p.name p.value) i then Some E9 else None))
    ∙ sym (request_property p.line (list_any (same_name p) ps) (is_mistyped (look_up p.name request_types) p.value))

-- what it asks for
pub asked_next : (ps : List PlainProperty) (names : List (List ℕ)) (fields : PlainRequestFields) (p : PlainProperty) (more : List PlainProperty) (new_fields : PlainRequestFields)
    → AreNames names ps → more ≡ ps ++ p ∷ [] → fields ≡ request_fields_of ps → new_fields ≡ request_fields_after names p fields → new_fields ≡ request_fields_of more
asked_next ps names fields p more new_fields names_are more_is so_far fields_is =
    fields_is
    ∙ (λ i. if names_are p.name i then so_far i else with_request_property (request_property_named p.name) p.value (so_far i))
    ∙ request_fields_of-next ps p ∙ ap request_fields_of (sym more_is)
