-- Stanzas, by their first property, and the properties in them: CUDF 2.0, syntax of stanzas and properties.
use Rattle.std.specs.Prelude.{ℕ, Bool, true, false, List, [], ◌∷◌, ◌++◌, Option, Some, find, slice_get, option_and_then, bytes_eq, codes}
use Rattle.cudf_text.specs.Stanzas.{PlainProperty, PlainStanza}
use Rattle.cudf_value.specs.Parts.{look_up}
use Rattle.cudf_problem.specs.declared.problem.Postmark.{Postmark}
use Rattle.cudf_problem.specs.declared.problem.Postmark.TheVariants.{Preamble, Package, Request}

-- ---- lists

abbrev pub is_empty : {A : Type 0} → List A → Bool
is_empty [] = true
is_empty (x ∷ xs) = false

-- each with those before it; the first list is before them all
abbrev pub with_earlier : {A : Type 0} → List A → List A → List (List A × A)
with_earlier before [] = []
with_earlier before (x ∷ xs) = (before, x) ∷ with_earlier (before ++ x ∷ []) xs

-- ---- what a stanza is

abbrev pub postmark_named : List ℕ → Option Postmark
postmark_named name = look_up name ((codes "preamble", Preamble) ∷ (codes "package", Package) ∷ (codes "request", Request) ∷ [])

-- the first property's name says what a stanza is
abbrev pub postmark : PlainStanza → Option Postmark
postmark s = option_and_then (λ p. postmark_named p.name) (slice_get s.properties 0)

-- the postmark is this one
abbrev pub marks : Postmark → Option Postmark → Bool
marks Preamble (Some Preamble) = true
marks Package (Some Package) = true
marks Request (Some Request) = true
marks _ _ = false

abbrev pub is_request : PlainStanza → Bool
is_request s = marks Request (postmark s)

-- ---- properties

abbrev pub has_name : List ℕ → PlainProperty → Bool
has_name name p = bytes_eq p.name name

-- what the first property of this name says; later ones say nothing (own)
abbrev pub value_of : {A : Type 0} → (List ℕ → Option A) → List ℕ → List PlainProperty → Option A
value_of read name ps = option_and_then (λ p. read p.value) (find (has_name name) ps)
