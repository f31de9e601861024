-- The provisions of a name, as they lie in memory (own).
use Rattle.std.specs.Prelude.{List, [], ◌∷◌}
use Rattle.cudf_index.specs.declared.index.gathered_names.Provision.{Provision}
use Rattle.cudf_index.specs.declared.index.gathered_names.Provisions.{Provisions}
use Rattle.cudf_index.specs.declared.index.gathered_names.Provisions.TheVariants.{One, Two, Others}

abbrev pub provisions_in : Provisions → List Provision
provisions_in (One g) = g ∷ []
provisions_in (Two gs) = gs
provisions_in (Others gs) = gs.items
