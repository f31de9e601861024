use Rattle.cudf_better.proofs.network.+put_sorted.Given as goal

abbrev pub decreases-put_sorted : goal.decreases-put_sorted
decreases-put_sorted l = l.depth
