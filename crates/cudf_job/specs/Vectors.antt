-- The vectors paranoid and trendy of the MISC competition, of which each is to be as small as can be, the first count first.
use Rattle.std.specs.Prelude.{ℕ, List, [], ◌∷◌}
use Rattle.cudf_job.specs.declared.criteria.Criteria.{Criteria}

abbrev pub paranoid : Criteria → List ℕ
paranoid c = c.removed ∷ c.changed ∷ []

abbrev pub trendy : Criteria → List ℕ
trendy c = c.removed ∷ c.notuptodate ∷ c.unsat_recommends ∷ c.new ∷ []
