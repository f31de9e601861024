use Rattle.std.proofs.Common.{cond, subst, sym, ap, ◌∙◌}
use Rattle.std.specs.List.{count_by}
use Rattle.std.specs.List.Sorted.{IsNonDecreasing}
use Rattle.std.proofs.lemmas.List.Sorted.{IsNonDecreasingBy-from_sort, sum_by-IsPermutation}
use Rattle.cudf_index.proofs.index.sorted.SortedNumbers.new.Goals as goal

pub invariant_of-result : goal.invariant_of-result
invariant_of-result c = subst IsNonDecreasing (sym c.new.ensures) (IsNonDecreasingBy-from_sort (λ n. n) c.sort_unstable.new.self.items c.sort_unstable.ensures.sorted)

pub returns-clause-counts : goal.returns-clause-counts
returns-clause-counts c = λ p. ap (count_by p) c.new.ensures ∙ sum_by-IsPermutation (λ n. cond (p n) 1 0) c.args.numbers.items c.sort_unstable.new.self.items c.sort_unstable.ensures.permutation

pub returns-clause-ascending : goal.returns-clause-ascending
returns-clause-ascending c = subst IsNonDecreasing (sym c.new.ensures) (IsNonDecreasingBy-from_sort (λ n. n) c.sort_unstable.new.self.items c.sort_unstable.ensures.sorted)
