-- The order as the walk's calls give it.
use Rattle.std.proofs.Common.{◌≡◌, ℕ, zero, suc, ◌-◌, ◌+◌, ◌++◌, ◌<◌, ◌≤◌, get_or, List, [], ◌∷◌, length, map, filter, Some, None, refl, subst, sym, ap, ◌∙◌, arith}
use Rattle.std.specs.Prelude.{slice_get}
use Rattle.std.proofs.lemmas.List.{length-map}
use Rattle.std.proofs.lemmas.List.Sums.{fold-append}
use Rattle.cudf_reasons.specs.Reasons.{Keyed, PlainReason, core_of, in_order, is_asked, is_kept, reasons_of, told_of, walk, with_brought, with_reason, with_reasons}
use Rattle.cudf_reasons.specs.Views.{Told, told_as}
use Rattle.cudf_reasons.specs.Working.Tables.{reason_at, told_at}
use Rattle.cudf_reasons.specs.Working.Walks.{Progress, is_root}
use Rattle.cudf_reasons.specs.declared.gathering.ReasonGroup.TheVariants.{Asked, Kept, Any}
use Rattle.cudf_reasons.proofs.LawLemmas.{get_past}

abbrev Reasons : Type 0
Reasons = List PlainReason

-- one step of the walk
walk_next : (n : ℕ) (core told now : Reasons) (next : ℕ) → next < n → now ≡ with_brought core told (slice_get told next) → walk (n - (next + 1)) core (next + 1) now ≡ walk (n - next) core next told
walk_next n core told now next within is =
    let steps : n - next ≡ suc (n - (next + 1)) = omega arith in
    ap (walk (n - (next + 1)) core (next + 1)) is ∙ sym (ap (λ m. walk m core next told) steps)

-- where there is a next one, and where there is none
get_mapped : (f : ℕ → PlainReason) (xs : List ℕ) (i d : ℕ) → i < length xs → slice_get (map f xs) i ≡ Some (f (get_or xs i d))
get_mapped f [] i d within = absurd (omega arith)
get_mapped f (x ∷ xs) zero d within = refl
get_mapped f (x ∷ xs) (suc i) d within = get_mapped f xs i d (omega arith)

-- one step where a reason comes next, and where none does, over the core that the walk began with
pub walk_on : (core : Reasons) (order : List ℕ) (l now : Progress) (all : Reasons) (next index : ℕ) → record { core = core; told = map (reason_at core) order } ≡ l → l.core ≡ all → next < length all → next < length order
    → index ≡ get_or order next index → now ≡ record l { told = with_brought l.core l.told (Some (reason_at l.core index)) } → walk (length all - (next + 1)) all (next + 1) now.told ≡ walk (length all - next) all next l.told
walk_on core order l now all next index view same within there found is =
    let brings : now.told ≡ with_brought all l.told (slice_get l.told next) =
    ap (λ (p : Progress). p.told) is ∙ ap (λ cs. with_brought cs l.told (Some (reason_at cs index))) same
    ∙ ap (with_brought all l.told) (subst (λ (p : Progress). Some (reason_at all index) ≡ slice_get p.told next) view
    (ap (λ k. Some (reason_at all k)) found ∙ ap (λ cs. Some (reason_at cs (get_or order next index))) (sym (ap (λ (p : Progress). p.core) view ∙ same)) ∙ sym (get_mapped (reason_at core) order next index there))) in
    walk_next (length all) all l.told now.told next within brings

pub walk_past_end : (core : Reasons) (order : List ℕ) (l : Progress) (all : Reasons) (next : ℕ) → record { core = core; told = map (reason_at core) order } ≡ l → next < length all → length order ≤ next
    → walk (length all - (next + 1)) all (next + 1) l.told ≡ walk (length all - next) all next l.told
walk_past_end core order l all next view within past =
    let none : slice_get l.told next ≡ None = get_past l.told next (omega (arith, length-map order (reason_at core), ap (λ (p : Progress). length p.told) view)) in
    walk_next (length all) all l.told l.told next within (ap (with_brought all l.told) (sym none))

all_pass : (xs : Reasons) → filter (is_root Any) xs ≡ xs
all_pass [] = refl
all_pass (x ∷ xs) = ap (λ (ys : Reasons). x ∷ ys) (all_pass xs)

abbrev tells : Progress → Reasons → Progress
tells p xs = record p { told = with_reasons p.told xs }

pub told_in_order : (core : Reasons) (begun asked kept followed all : Progress) → begun ≡ record { core = core; told = [] } → asked ≡ tells begun (filter (is_root Asked) begun.core) → kept ≡ tells asked (filter (is_root Kept) asked.core)
    → followed ≡ record kept { told = walk (length kept.core) kept.core 0 kept.told } → all ≡ tells followed (filter (is_root Any) followed.core) → all ≡ record { core = core; told = in_order core }
told_in_order core begun asked kept followed all is_begun is_asked' is_kept' is_followed is_all =
    let first : asked ≡ record { core = core; told = with_reasons [] (filter is_asked core) } = is_asked' ∙ ap (λ (p : Progress). tells p (filter (is_root Asked) p.core)) is_begun in
    let roots : with_reasons (with_reasons [] (filter is_asked core)) (filter is_kept core) ≡ with_reasons [] (filter is_asked core ++ filter is_kept core) = sym (fold-append with_reason [] (filter is_asked core) (filter is_kept core)) in
    let second : kept ≡ record { core = core; told = with_reasons [] (filter is_asked core ++ filter is_kept core) } =
    is_kept' ∙ ap (λ (p : Progress). tells p (filter (is_root Kept) p.core)) first ∙ ap (λ (t : Reasons). record { core = core; told = t }) roots in
    let third : followed ≡ record { core = core; told = told_of core } = is_followed ∙ ap (λ (p : Progress). record p { told = walk (length p.core) p.core 0 p.told }) second in
    is_all ∙ ap (λ (p : Progress). tells p (filter (is_root Any) p.core)) third ∙ ap (λ (t : Reasons). record { core = core; told = t }) (ap (with_reasons (told_of core)) (all_pass core))

-- reported as keys and places
pub told_listed : (core : Reasons) (needed : List Keyed) (order : List ℕ) → core ≡ core_of needed → map (reason_at core) order ≡ in_order core → map (told_at core) order ≡ map told_as (reasons_of needed)
told_listed core needed order is told = apart order ∙ ap (map told_as) (told ∙ ap in_order is)
  where
    apart : (xs : List ℕ) → map (told_at core) xs ≡ map told_as (map (reason_at core) xs)
    apart [] = refl
    apart (x ∷ xs) = ap (λ (ts : List Told). told_at core x ∷ ts) (apart xs)
