use Rattle.std.proofs.Common.{◌≡◌, ℕ, ◌+◌, ◌<◌, List, ◌++◌, length, get_or, take, ap, sym, ◌∙◌}
use Rattle.std.specs.Prelude.{filter_map, option_to_list}
use Rattle.std.proofs.lemmas.List.{take_more, take_all}
use Rattle.cudf_index.specs.declared.index.gathered_names.Provision.{Provision}
use Rattle.cudf_index.proofs.GatheringLemmas.{filter_map_push}
use Rattle.cudf_index.proofs.index.gathered_names.put_numbers.Goals as goal

numbers_more : (row : List Provision) (i : ℕ) (d : Provision) (done now : List ℕ) → i < length row → done ≡ filter_map (λ g. g.number) (take i row) → now ≡ done ++ option_to_list (get_or row i d).number → now ≡ filter_map (λ g. g.number) (take (i + 1) row)
numbers_more row i d done now inside before pushed =
    pushed ∙ ap (λ ns. ns ++ option_to_list (get_or row i d).number) before ∙ sym (ap (filter_map (λ g. g.number)) (take_more row i d inside) ∙ filter_map_push (λ g. g.number) (take i row) (get_or row i d))

pub loop-provision-preserved : goal.loop-provision-preserved
loop-provision-preserved c =
    numbers_more c.args.row.now c.loop-provision.provision-index _ c.loop-provision.numbers.items c.push_some.new.numbers.items c.loop-provision-test.true c.loop-provision.invariant c.in_ok-push_some.ensures

pub returns : goal.returns
returns c = c.loop-provision.invariant ∙ ap (filter_map (λ g. g.number)) (take_all c.loop-provision.provision-index c.args.row.now c.loop-provision-test.false)
