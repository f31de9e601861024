-- The faults of one property.
use Rattle.std.proofs.Common.{◌≡◌, ℕ, ◌≤◌, Bool, true, false, not, ◌||◌, ◌&&◌, ◌==◌, nat_lt, List, [], ◌∷◌, ◌++◌, Option, None, Some, is_none, option_map, refl, sym, ap, ◌∙◌, arith, if◌then◌else◌, bytes_eq}
use Rattle.std.specs.List.{list_any, flat_map}
use Rattle.indexmap.specs.IndexSet.{insert_key}
use Rattle.cudf_text.specs.declared.fault.Fault.{Fault}
use Rattle.cudf_text.specs.Stanzas.{PlainProperty}
use Rattle.cudf_text.specs.Chars.{trim}
use Rattle.cudf_value.specs.Types.{PlainType, is_of_type}
use Rattle.cudf_value.specs.Declarations.{PlainDeclaration}
use Rattle.cudf_problem.specs.declared.problem.Postmark.{Postmark}
use Rattle.cudf_problem.specs.Documents.{with_earlier}
use Rattle.cudf_document.specs.ProblemFaults.{property_faults}
use Rattle.cudf_document.specs.Working.SeenNames.{AreNames}
use Rattle.cudf_document.proofs.FaultLemmas.{faults-next}
use Rattle.cudf_document.proofs.NameLemmas.{AreNames-more}
use Rattle.std.proofs.lemmas.Bool.Decides.{nat_tests}
use Rattle.cudf_text.specs.declared.fault.Kind.{Kind}
use Rattle.cudf_text.specs.declared.fault.Kind.TheVariants.{E7, E8, E9, E10}
use Rattle.cudf_text.specs.Faults.{rank}
use Rattle.cudf_document.specs.Faults.{lesser, least, fault_if}
use Rattle.cudf_document.specs.Working.Judging.{is_mistyped}
use Rattle.cudf_document.specs.Working.Tests.{type_test}
use Rattle.cudf_document.specs.Working.PackageFields.{wrong_kind, fault_on}

not_before : (n k l : ℕ) → l ≤ k → (nat_lt n n || n == n && nat_lt k l) ≡ false
not_before n k l le = grind (arith, nat_tests)

-- of two faults of a line, the one of the kind that isn't greater
pub lesser_on_line : (n : ℕ) (k l : Kind) → rank k ≤ rank l → lesser (Some (record { line = n; kind = k })) (Some (record { line = n; kind = l })) ≡ fault_on n (Some k)
lesser_on_line n k l le = ap (λ b. Some (if b then record { line = n; kind = l } else record { line = n; kind = k })) (not_before n (rank l) (rank k) le)

-- what is wrong with a package's property: it is repeated, or else it isn't declared or not of its type
pub package_property : (n : ℕ) (again : Bool) (kind : Option PlainType) (text : List ℕ)
    → least (fault_if (again && true) n E7 ++ fault_if (is_none kind) n E8 ++ fault_if (is_mistyped kind text) n E9 ++ [])
    ≡ fault_on n (if again then Some E7 else wrong_kind (option_map type_test kind) text)
package_property n true None text = lesser_on_line n E7 E8 (omega arith)
package_property n false None text = refl
package_property n again (Some kind) text = by again (is_of_type kind (trim text))
  where
    by : (a b : Bool) → least (fault_if (a && true) n E7 ++ [] ++ fault_if (not b) n E9 ++ []) ≡ fault_on n (if a then Some E7 else (if b then None else Some E9))
    by true true = refl
    by true false = lesser_on_line n E7 E9 (omega arith)
    by false true = refl
    by false false = refl

-- what is wrong with a request's property: it is repeated, or else it isn't of its type
pub request_property : (n : ℕ) (again fails : Bool)
    → least (fault_if (again && true) n E7 ++ [] ++ fault_if fails n E9 ++ []) ≡ fault_on n (if again then Some E7 else (if fails then Some E9 else None))
request_property n true true = lesser_on_line n E7 E9 (omega arith)
request_property n true false = refl
request_property n false true = refl
request_property n false false = refl

-- what is wrong with a preamble's property: it is a bad declaration, or else it is repeated
pub preamble_property : (n : ℕ) (again declares bad : Bool)
    → least (fault_if (again && not declares) n E7 ++ [] ++ [] ++ fault_if (declares && bad) n E10)
    ≡ fault_on n (if declares then (if declares && bad then Some E10 else None) else (if again then Some E7 else None))
preamble_property n true true true = refl
preamble_property n true true false = refl
preamble_property n true false bad = refl
preamble_property n false true true = refl
preamble_property n false true false = refl
preamble_property n false false bad = refl

-- what is wrong with a value of a solution: it is repeated, or else it isn't of its type
pub counted_property : (n : ℕ) (again fits : Bool)
    → least (fault_if (again && true) n E7 ++ fault_if (not fits) n E9) ≡ fault_on n (if again then Some E7 else (if fits then None else Some E9))
counted_property n true true = refl
counted_property n true false = lesser_on_line n E7 E9 (omega arith)
counted_property n false true = refl
counted_property n false false = refl

-- ---- the properties of a stanza, one after the other

-- what is known of those so far
pub record IsJudgedTo (ds : List PlainDeclaration) (mark : Option Postmark) (ps : List PlainProperty) (names : List (List ℕ)) (first : Option Fault) : Type 0 where
  pub names_are : AreNames names ps
  pub first_is : first ≡ least (flat_map (property_faults ds mark) (with_earlier [] ps))

pub IsJudgedTo-none : (ds : List PlainDeclaration) (mark : Option Postmark) (names : List (List ℕ)) → names ≡ [] → IsJudgedTo ds mark [] names None
IsJudgedTo-none ds mark names none = record { names_are = λ name. ap (list_any (bytes_eq name)) none; first_is = refl }

pub IsJudgedTo-next : (ds : List PlainDeclaration) (mark : Option Postmark) (ps : List PlainProperty) (names : List (List ℕ)) (first : Option Fault) (p : PlainProperty)
    (more : List PlainProperty) (new_names : List (List ℕ)) (fault new_first : Option Fault)
    → IsJudgedTo ds mark ps names first → more ≡ ps ++ p ∷ [] → new_names ≡ insert_key bytes_eq names p.name
    → fault ≡ least (property_faults ds mark (ps, p)) → new_first ≡ lesser first fault → IsJudgedTo ds mark more new_names new_first
IsJudgedTo-next ds mark ps names first p more new_names fault new_first so_far more_is names_is fault_is lesser_is = record {
  names_are = AreNames-more names ps p more new_names so_far.names_are more_is names_is;
  first_is = lesser_is ∙ faults-next (property_faults ds mark) ps p first fault so_far.first_is fault_is
      ∙ ap (λ qs. least (flat_map (property_faults ds mark) (with_earlier [] qs))) (sym more_is);
}
