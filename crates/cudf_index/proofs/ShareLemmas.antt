-- What one package gives of a name, counted.
use Rattle.std.proofs.Common.{◌≡◌, ◌≤◌, ℕ, suc, ◌+◌, ◌*◌, true, List, [], ◌∷◌, length, Option, Some, None, ap, ◌∙◌, arith, bytes_eq}
use Rattle.std.specs.Prelude.{filter_map}
use Rattle.std.specs.List.{count_by, cons_option}
use Rattle.std.proofs.lemmas.List.{append-nil}
use Rattle.std.proofs.lemmas.List.Sums.{count_by-le-length}
use Rattle.cudf_value.specs.Vpkgs.{PlainVpkg, meets}
use Rattle.cudf_index.specs.Promises.Prices.{digits, own_entries}
use Rattle.cudf_index.specs.Satisfaction.{Placed, is_met_by, package_pairs, entry_pair, unversioned_name}
use Rattle.cudf_index.specs.Working.Kept.{Keeps, kept_numbers, kept_unversioned}
use Rattle.cudf_index.specs.Working.Shares.{GivesMuch}
use Rattle.cudf_index.specs.declared.index.gathered_names.Entries.{Entries}
use Rattle.cudf_index.proofs.CountLemmas.{count-all}
use Rattle.cudf_index.proofs.TakenOffLemmas.{count-numbers}
use Rattle.cudf_index.proofs.PriceLemmas.{digits-of_many}

filter_map-at_most : {X Y : Type 0} (h : X → Option Y) (xs : List X) → length (filter_map h xs) ≤ length xs
filter_map-at_most h [] = omega arith
filter_map-at_most {X} {Y} h (x ∷ xs) = by (h x) (filter_map-at_most h xs)
  where
    by : (o : Option Y) → length (filter_map h xs) ≤ length xs → length (cons_option o (filter_map h xs)) ≤ suc (length xs)
    by None rest = omega (arith, rest)
    by (Some y) rest = omega (arith, rest)

-- what is kept of a name, where the status is the package alone
module _ (v : PlainVpkg) (p : Placed) (kept : Option Entries) (keeps : Keeps v.name (p ∷ []) kept) where
  pub share_numbers : count_by (meets v.bound) (kept_numbers kept) ≡ count_by (is_met_by v) (package_pairs p.1)
  share_numbers = keeps.numbers (meets v.bound) ∙ count-numbers v (p ∷ []) ∙ ap (count_by (is_met_by v)) (append-nil (package_pairs p.1))

  pub share_unversioned : kept_unversioned kept ≡ count_by (λ given. bytes_eq given v.name) (filter_map unversioned_name p.1.provides)
  share_unversioned = keeps.unversioned ∙ ap (count_by (λ given. bytes_eq given v.name)) (append-nil (filter_map unversioned_name p.1.provides))

  -- no more numbers than the package gives
  share_most : length (kept_numbers kept) ≤ length p.1.provides + 1
  share_most =
      let every : PlainVpkg = record v { bound = None } in
      let all = count-all (kept_numbers kept) in
      let same = keeps.numbers (λ n. true) ∙ count-numbers every (p ∷ []) ∙ ap (count_by (is_met_by every)) (append-nil (package_pairs p.1)) in
      omega (arith, all, same, count_by-le-length (is_met_by every) (package_pairs p.1), filter_map-at_most entry_pair p.1.provides)

  pub share_price : (old ticked new : ℕ) → GivesMuch p → ticked ≡ old + 1 → new ≤ ticked + 2 * digits (length (kept_numbers kept)) → new ≤ old + own_entries (Some p)
  share_price old ticked new many one searched = omega (arith, digits-of_many (length (kept_numbers kept)) (length p.1.provides) many share_most)
