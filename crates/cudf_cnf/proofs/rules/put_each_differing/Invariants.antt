use Rattle.std.proofs.Common.{◌≡◌, ◌≤◌, ◌++◌, length, take}
use Rattle.std.specs.List.{flat_map}
use Rattle.cudf_job.specs.KeyViews.{key_view}
use Rattle.cudf_cnf.specs.Working.Collecting.{SameFrame}
use Rattle.cudf_cnf.specs.Working.Parts.{differing_at, keyed}
use Rattle.cudf_cnf.proofs.rules.put_each_differing.Given as goal

abbrev pub invariant-loop-place : goal.invariant-loop-place
invariant-loop-place l = record {
  held : l.to.clauses.clauses ≡ l.initial.to.clauses.clauses ++ keyed (key_view l.fn.key) (flat_map (differing_at l.all l.name) (take l.place-index l.givers));
  fits : length l.to.clauses.clauses ≤ l.to.room;
  same : SameFrame l.initial.to l.to;
}
