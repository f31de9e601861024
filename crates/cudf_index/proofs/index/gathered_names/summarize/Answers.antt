use Rattle.std.proofs.Common.{◌≡◌, ℕ, ◌+◌, List, length, ap, ◌∙◌, arith}
use Rattle.std.specs.Prelude.{filter_map}
use Rattle.std.specs.Option.{is_none}
use Rattle.std.specs.List.{count_by}
use Rattle.cudf_index.specs.declared.index.gathered_names.Provision.{Provision}
use Rattle.cudf_index.proofs.GatheringLemmas.{numbers_and_none}
use Rattle.cudf_index.proofs.index.gathered_names.summarize.Goals as goal

count_none : (row : List Provision) (numbers : List ℕ) → numbers ≡ filter_map (λ g. g.number) row → length numbers + count_by (λ g. is_none g.number) row ≡ length row
count_none row numbers e = ap (λ ns. length ns + count_by (λ g. is_none g.number) row) e ∙ numbers_and_none row

pub overflow_sub-unversioned : goal.overflow_sub-unversioned
overflow_sub-unversioned c = omega (arith, count_none c.args.row.now c.put_numbers.new.numbers.items c.in_ok-put_numbers.ensures, c.len.ensures, c.put_numbers.new.numbers.ok)

pub returns : goal.returns
returns c = record {
  ascending = c.new.ensures.ascending;
  numbers = λ p. c.new.ensures.counts p ∙ ap (count_by p) c.in_ok-put_numbers.ensures;
  unversioned = omega (arith, count_none c.args.row.now c.put_numbers.new.numbers.items c.in_ok-put_numbers.ensures, c.len.ensures);
  sole = c.sole_place.ensures;
  is_package = c.any_version.ensures;
}
