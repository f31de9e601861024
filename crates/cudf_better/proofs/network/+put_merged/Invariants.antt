use Rattle.cudf_better.proofs.network.+put_merged.Given as goal

abbrev pub decreases-put_merged : goal.decreases-put_merged
decreases-put_merged l = l.depth
