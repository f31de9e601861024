-- What is known of the pairs of a solution while its stanzas are read.
use Rattle.std.specs.Prelude.{◌≡◌, List, filter_map}
use Rattle.cudf_text.specs.Stanzas.{PlainStanza}
use Rattle.cudf_problem.specs.declared.problem.Mode.{Mode}
use Rattle.cudf_problem.specs.declared.problem.Mode.TheVariants.{Strict}
use Rattle.cudf_document.specs.declared.proposed.Pairs.{Pairs}
use Rattle.cudf_document.specs.Faults.{least}
use Rattle.cudf_problem.specs.Ids.{Id, id_of, is_among}
use Rattle.cudf_document.specs.SolutionFaults.{repeated_pairs_faults}

-- the first of these stanzas' pairs that is repeated, and strictly all of them
pub record ArePairs (mode : Mode) (seen : List PlainStanza) (p : Pairs) : Type 0 where
  pub mode_is : p.mode ≡ mode
  pub first_is : p.first ≡ least (repeated_pairs_faults mode seen)
  pub ids_are : mode ≡ Strict → (id : Id) → is_among p.ids id ≡ is_among (filter_map id_of seen) id
