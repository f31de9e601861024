use Rattle.std.proofs.Common.{◌≡◌, ℕ, ◌<◌, true, false, get_or, length}
use Rattle.cudf_cnf.proofs.encoder.all_of.Given as goal

abbrev pub invariant-loop-member : goal.invariant-loop-member
invariant-loop-member l = record {
  long : length l.flags.items ≡ l._member-index;
  set : (k : ℕ) → k < l._member-index → get_or l.flags.items k false ≡ true;
}
