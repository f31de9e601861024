use Rattle.std.proofs.Common.{◌≡◌}
use Rattle.cudf_program.proofs.collect_args.Given as goal

abbrev pub invariant-loop-word : goal.invariant-loop-word
invariant-loop-word l = l.words.items ≡ l.yielded
