-- The counts without unknown stanzas, and numbers from 1.
use Rattle.std.proofs.Common.{◌≡◌, ℕ, zero, suc, ◌<◌, true, nat_lt, List, [], ◌∷◌, refl, arith}
use Rattle.std.specs.List.{All}
use Rattle.std.proofs.lemmas.Bool.{ltb-true}
use Rattle.cudf_problem.specs.Universe.{PlainProblem}
use Rattle.cudf_problem.specs.Statuses.{PlainUnknown, ascend_above}
use Rattle.cudf_index.specs.Satisfaction.{Placed}
use Rattle.cudf_referee.specs.Criteria.{criteria}
use Rattle.cudf_referee.specs.Working.Walkers.{put_forward}
use Rattle.cudf_referee.proofs.ListLemmas.{and_left, and_right}

-- the criteria don't depend on unknown stanzas
pub criteria_known : (problem : PlainProblem) (status : List Placed) (unknown : List PlainUnknown) → criteria (put_forward problem status []) ≡ criteria (put_forward problem status unknown)
unfolding criteria
criteria_known problem status unknown = refl

-- numbers that ascend are from 1
pub all_numbered : (n : ℕ) (unknown : List PlainUnknown) → ascend_above n unknown ≡ true → All (λ u. 0 < u.stanza) unknown
all_numbered n [] h i d inside = absurd (omega arith)
all_numbered n (u ∷ us) h zero d inside = omega (arith, ltb-true n u.stanza (and_left (nat_lt n u.stanza) (ascend_above u.stanza us) h))
all_numbered n (u ∷ us) h (suc i) d inside = all_numbered u.stanza us (and_right (nat_lt n u.stanza) (ascend_above u.stanza us) h) i d (omega arith)
