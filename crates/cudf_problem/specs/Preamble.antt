-- The extra package properties that a document declares: CUDF 2.0, the preamble.
use Rattle.std.specs.Prelude.{ℕ, Bool, false, not, ◌||◌, List, [], ◌∷◌, ◌++◌, map, Option, find, unwrap_or, option_and_then, bytes_eq, codes, if◌then◌else◌}
use Rattle.std.specs.List.{fold, list_any, list_all}
use Rattle.cudf_text.specs.Stanzas.{PlainProperty, PlainStanza}
use Rattle.cudf_text.specs.Chars.{trim}
use Rattle.cudf_value.specs.Parts.{some_if, trimmed}
use Rattle.cudf_value.specs.Formulas.{PlainAtom, formula}
use Rattle.cudf_value.specs.Types.{PlainType, word_type, enum_type}
use Rattle.cudf_value.specs.Declarations.{PlainDeclaration, declarations}
use Rattle.cudf_problem.specs.declared.problem.Postmark.TheVariants.{Preamble}
use Rattle.cudf_problem.specs.Documents.{with_earlier, has_name, postmark, marks}

-- the names that can't be declared (own)
abbrev pub reserved_names : List (List ℕ)
reserved_names = codes "package" ∷ codes "version" ∷ codes "depends" ∷ codes "conflicts" ∷ codes "provides" ∷ codes "installed"
    ∷ codes "was-installed" ∷ codes "keep" ∷ codes "preamble" ∷ codes "request" ∷ []

-- a declaration that is allowed after these: of a name that is neither reserved nor declared before
abbrev pub is_declarable : List PlainDeclaration × PlainDeclaration → Bool
is_declarable (before, d) = not (list_any (bytes_eq d.name) reserved_names || list_any (λ e. bytes_eq d.name e.name) before)

-- what a `property` value declares after those before, where each is allowed after those and after the ones before it in the value
abbrev pub declared_by : List PlainDeclaration → List ℕ → Option (List PlainDeclaration)
declared_by before text = option_and_then (λ ds. some_if (list_all is_declarable (with_earlier before ds)) ds) (declarations (trim text))

-- those before, and those that the properties of the preamble add, on several lines too (own): a bad declaration adds nothing
abbrev pub declared_after : List PlainDeclaration → List PlainProperty → List PlainDeclaration
declared_after before ps = fold (λ ds p. ds ++ (if has_name (codes "property") p then unwrap_or (declared_by ds p.value) [] else [])) before ps

-- what a document declares: what its first stanza does, where that is a preamble
abbrev pub declared : List PlainStanza → List PlainDeclaration
declared [] = []
declared (s ∷ ss) = if marks Preamble (postmark s) then declared_after [] s.properties else []

-- the names of the extra properties that a document declares
abbrev pub declared_names : List PlainStanza → List (List ℕ)
declared_names ss = map (λ d. d.name) (declared ss)

-- ---- recommends

abbrev pub is_formula_type : PlainType → Bool
is_formula_type (word_type word) = bytes_eq word (codes "vpkgformula")
is_formula_type (enum_type idents) = false

-- the declaration of `recommends`, where it is one of formulas
abbrev pub recommends_in : List PlainDeclaration → Option PlainDeclaration
recommends_in ds = option_and_then (λ d. some_if (is_formula_type d.kind) d) (find (λ d. bytes_eq (codes "recommends") d.name) ds)

-- the declared default of `recommends`, where it is one of formulas
abbrev pub recommends_default : List PlainDeclaration → Option (List (List PlainAtom))
recommends_default ds = option_and_then (λ d. option_and_then (trimmed formula) d.default) (recommends_in ds)
