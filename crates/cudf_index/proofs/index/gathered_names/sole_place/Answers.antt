use Rattle.std.proofs.Common.{◌≡◌, ◌<◌, ◌==◌, ℕ, Bool, true, false, List, [], ◌∷◌, length, map, Some, None, cond, refl, sym, ap, ◌∙◌, ◌&&◌, arith, rules, tests, get_or}
use Rattle.std.specs.List.{list_all}
use Rattle.std.proofs.lemmas.Iterator.{YieldsList-from_slice}
use Rattle.std.proofs.lemmas.Iterator.Search.{all_from_yields_List}
use Rattle.cudf_index.specs.Working.Gathering.{sole_place}
use Rattle.cudf_index.specs.declared.index.gathered_names.Provision.{Provision}
use Rattle.cudf_index.proofs.index.gathered_names.sole_place.Goals as goal

mapped : (place : ℕ) (row : List Provision) → list_all (λ q. q == place) (map (λ g. g.place) row) ≡ list_all (λ g. g.place == place) row
mapped place [] = refl
mapped place (g ∷ gs) = ap (λ b. (g.place == place) && b) (mapped place gs)

module _ (row : List Provision) (d : Provision) (some : 0 < length row) where
  first_decides : (b : Bool) → list_all (λ g. g.place == (get_or row 0 d).place) row ≡ b → cond b (Some ((get_or row 0 d).place)) None ≡ sole_place (map (λ g. g.place) row)
  first_decides b all = by row some all
    where
      by : (row : List Provision) → 0 < length row → list_all (λ g. g.place == (get_or row 0 d).place) row ≡ b → cond b (Some ((get_or row 0 d).place)) None ≡ sole_place (map (λ g. g.place) row)
      by [] some all = absurd (omega arith)
      by (g ∷ gs) some all = sym (ap (λ b. cond b (Some g.place) None) (mapped g.place (g ∷ gs) ∙ all))

-- what stands for the first provision of an empty row
abbrev unread : Provision
unread = record { number = None; place = 0; is_version = false }

pub returns-then-all : goal.returns-then-all
returns-then-all c =
    first_decides c.args.row.now unread (omega (arith, c.in-len1-up.len_at_least)) true
    (sym (all_from_yields_List (λ (g : Provision). g.place == (get_or c.args.row.now 0 unread).place) _ _ c.all.result c.all.ensures.ran (YieldsList-from_slice c.args.row.now cc) (λ x b q k. search (rules, tests))) ∙ c.if-all.true)

pub returns-else-all : goal.returns-else-all
returns-else-all c =
    first_decides c.args.row.now unread (omega (arith, c.in-len1-up.len_at_least)) false
    (sym (all_from_yields_List (λ (g : Provision). g.place == (get_or c.args.row.now 0 unread).place) _ _ c.all.result c.all.ensures.ran (YieldsList-from_slice c.args.row.now cc) (λ x b q k. search (rules, tests))) ∙ c.if-all.false)
