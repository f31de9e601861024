-- The ranking of the solutions of a problem: own.
use Rattle.std.specs.Prelude.{◌≡◌, ℕ, Bool, true, ◌==◌, ◌&&◌, not, List, [], ◌∷◌, if◌then◌else◌, IsTrue, IsPermutation}
use Rattle.std.specs.List.{fold, list_all}
use Rattle.std.specs.Ordering.{nat_cmp, ordering_then, is_lt}
use Rattle.std.specs.declared.cmp.Ordering.{Ordering}
use Rattle.std.specs.declared.cmp.Ordering.TheVariants.{Equal}
use Rattle.cudf_job.specs.Comparing.{compare}
use Rattle.cudf_job.specs.declared.criteria.Aim.{Aim}
use Rattle.cudf_job.specs.declared.ranking.Judgement.{Judgement}
use Rattle.cudf_job.specs.declared.ranking.Judgement.TheVariants.{Solution, NoSolution, SaysFail}
use Rattle.cudf_job.specs.declared.ranking.Entrant.{Entrant}

-- solutions come first, then those that are none, then those that say FAIL
abbrev pub class : Judgement → ℕ
class (Solution c) = 0
class NoSolution = 1
class SaysFail = 2

-- two solutions are compared by the aims; the others tie
abbrev pub compare_counts : List Aim → Judgement → Judgement → Ordering
compare_counts aims (Solution c) (Solution d) = compare aims c d
compare_counts aims left right = Equal

-- two entrants are compared by class, then by the aims, then by place
abbrev pub compare_entrants : List Aim → Entrant → Entrant → Ordering
compare_entrants aims a b = ordering_then (nat_cmp (class a.judgement) (class b.judgement))
    (ordering_then (compare_counts aims a.judgement b.judgement) (nat_cmp a.place b.place))

-- a comes before b
abbrev pub precedes : List Aim → Entrant → Entrant → Bool
precedes aims a b = is_lt (compare_entrants aims a b)

-- the entrants with x put before the first that it precedes, or at the end
abbrev pub put : List Aim → List Entrant → Entrant → List Entrant
put aims [] x = x ∷ []
put aims (y ∷ ys) x = if precedes aims x y then x ∷ y ∷ ys else y ∷ put aims ys x

-- the entrants in the order of their rank, the best first
unfoldable pub ranking : List Aim → List Entrant → List Entrant
ranking aims entrants = fold (put aims) [] entrants

-- ---- what makes it the ranking

-- no place occurs twice
abbrev pub have_own_places : List Entrant → Bool
have_own_places [] = true
have_own_places (x ∷ xs) = list_all (λ y. not (x.place == y.place)) xs && have_own_places xs

-- each precedes all later ones
abbrev pub ascend : List Aim → List Entrant → Bool
ascend aims [] = true
ascend aims (x ∷ xs) = list_all (precedes aims x) xs && ascend aims xs

-- the ranking is its list in another order: none is left out, and none occurs twice
abbrev pub RankingPermutes : Type 0
RankingPermutes = (aims : List Aim) (xs : List Entrant) → IsPermutation xs (ranking aims xs)

-- where no place occurs twice, each precedes all that are ranked after it
abbrev pub RankingAscends : Type 0
RankingAscends = (aims : List Aim) (xs : List Entrant) → IsTrue (have_own_places xs) → IsTrue (ascend aims (ranking aims xs))

-- and no other list of the same entrants ascends so
abbrev pub RankingIsAlone : Type 0
RankingIsAlone = (aims : List Aim) (xs ys : List Entrant) → IsTrue (have_own_places xs) → IsPermutation xs ys → IsTrue (ascend aims ys)
    → ys ≡ ranking aims xs
