use Rattle.std.proofs.Common.{◌≡◌, ◌++◌, ◌∷◌, [], map, take}
use Rattle.cudf_job.specs.KeyViews.{key_view}
use Rattle.cudf_cnf.specs.Cnf.{is_out}
use Rattle.cudf_cnf.proofs.rules.put_pairs_out.Given as goal

abbrev pub invariant-loop-place : goal.invariant-loop-place
invariant-loop-place l = record {
  put : l.clauses.clauses ≡ l.initial.clauses.clauses ++ map (λ n. (key_view l.fn.key, is_out l.fn.first ∷ is_out n ∷ [])) (take l.place-index l.places);
  places : l.clauses.places ≡ l.initial.clauses.places;
}
