-- Numbers of a name (own).
use Rattle.std.specs.Prelude.{ℕ, List, [], ◌∷◌}
use Rattle.cudf_index.specs.declared.index.sorted.Numbers.{Numbers}
use Rattle.cudf_index.specs.declared.index.sorted.Numbers.TheVariants.{One, Two, Others}

abbrev pub numbers_in : Numbers → List ℕ
numbers_in (One n) = n ∷ []
numbers_in (Two ns) = ns
numbers_in (Others ns) = ns.items
