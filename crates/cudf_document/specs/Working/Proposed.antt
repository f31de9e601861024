-- What is known of a solution while its stanzas are read, and once they are.
use Rattle.std.specs.Prelude.{◌≡◌, ℕ, List, [], ◌++◌, map, length}
use Rattle.std.specs.List.{flat_map}
use Rattle.cudf_text.specs.Stanzas.{PlainStanza, PlainText}
use Rattle.cudf_problem.specs.declared.problem.Mode.{Mode}
use Rattle.cudf_document.specs.declared.proposed.SolutionState.{SolutionState}
use Rattle.cudf_document.specs.Faults.{least}
use Rattle.cudf_document.specs.SolutionFaults.{solution_stanza_faults, solution_faults}
use Rattle.cudf_problem.specs.Statuses.{PlainUnknown}
use Rattle.cudf_problem.specs.Promises.Statuses.{installed_stanzas}
use Rattle.cudf_problem.specs.Promises.Views.{unknown_view}
use Rattle.cudf_document.specs.Working.DeclaredNames.{AreExtras, names_with}
use Rattle.cudf_document.specs.Working.Pairs.{ArePairs}

-- the first fault of these stanzas, where the problem declares these names, the names that are declared, the stanzas' pairs,
-- how many there are, and those that install a pair
pub record IsRead (mode : Mode) (names : List (List ℕ)) (seen : List PlainStanza) (r : SolutionState) : Type 0 where
  pub first_is : r.first ≡ least (flat_map (solution_stanza_faults mode (names_with names seen)) seen)
  pub extras_are : AreExtras mode names seen r.extras
  pub pairs_are : ArePairs mode seen r.pairs
  pub number_is : r.number ≡ length seen
  pub installed_are : map unknown_view r.installed.items ≡ installed_stanzas seen

-- some stanzas of the text were read, and these are left
pub record GoesOn (mode : Mode) (names : List (List ℕ)) (r : SolutionState) (left text : PlainText) : Type 0 where
  pub seen : List PlainStanza
  pub read : IsRead mode names seen r
  pub whole : ◌≡◌ {A = PlainText} (record left { stanzas = seen ++ left.stanzas }) text

-- the text has no fault, and these are its stanzas that install a pair
pub record IsProposedOf (mode : Mode) (names : List (List ℕ)) (text : PlainText) (installed : List PlainUnknown) : Type 0 where
  pub sound : solution_faults text mode names ≡ []
  pub installed_are : installed ≡ installed_stanzas text.stanzas
