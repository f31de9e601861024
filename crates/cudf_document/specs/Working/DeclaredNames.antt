-- What is known of the names that are declared while the stanzas of a solution are read.
use Rattle.std.specs.Prelude.{◌≡◌, ℕ, Bool, ◌||◌, List, bytes_eq, ◌++◌}
use Rattle.std.specs.List.{list_any}
use Rattle.cudf_text.specs.Stanzas.{PlainStanza}
use Rattle.cudf_problem.specs.declared.problem.Mode.{Mode}
use Rattle.cudf_problem.specs.declared.problem.Mode.TheVariants.{Strict}
use Rattle.cudf_problem.specs.Preamble.{reserved_names, declared, declared_names}
use Rattle.cudf_document.specs.declared.proposed.package.DeclaredNames.{DeclaredNames}
use Rattle.cudf_document.specs.Working.Judging.{is_declared}

-- a reserved name, or one of those that are known
abbrev pub is_extra : DeclaredNames → List ℕ → Bool
is_extra e name = (list_any (bytes_eq name) reserved_names || list_any (bytes_eq name) e.of_problem) || is_declared e.own name

-- a reserved name, or one of these
abbrev pub is_known_name : List (List ℕ) → List ℕ → Bool
is_known_name names name = list_any (bytes_eq name) reserved_names || list_any (bytes_eq name) names

-- the names that are declared: by the problem, which declares these, or by the solution
abbrev pub names_with : List (List ℕ) → List PlainStanza → List (List ℕ)
names_with names ss = names ++ declared_names ss

-- strictly these are the names that the problem declares, and what these stanzas do
pub record AreExtras (mode : Mode) (names : List (List ℕ)) (seen : List PlainStanza) (e : DeclaredNames) : Type 0 where
  pub mode_is : e.mode ≡ mode
  pub names_are : mode ≡ Strict → (name : List ℕ) → list_any (bytes_eq name) e.of_problem ≡ list_any (bytes_eq name) names
  pub own_are : mode ≡ Strict → e.own ≡ declared seen
