-- What is known of the package at an index of the universe.
use Rattle.std.proofs.Common.{◌≡◌, ℕ, ◌+◌, ◌-◌, ◌<◌, Bool, false, ◌&&◌, List, ◌∷◌, length, drop, cond, Some, None, ap, sym, ◌∙◌, subst, arith, ne_eqb}
use Rattle.std.specs.Prelude.{slice_get}
use Rattle.std.specs.List.{enumerate_from}
use Rattle.std.specs.Option.{option_map_or}
use Rattle.cudf_problem.specs.Statuses.{is_initial}
use Rattle.cudf_problem.specs.Universe.{PlainPackage, PlainProblem, package_at}
use Rattle.std.proofs.lemmas.Option.{slice_get_within, get_or_from_slice_get}
use Rattle.std.proofs.lemmas.List.{at_drop_more}
use Rattle.std.proofs.lemmas.List.FromFn.{length-enumerate_from, get_or-enumerate_from}
use Rattle.cudf_index.specs.Satisfaction.{Placed, members}
use Rattle.cudf_referee.specs.declared.left.Candidate.{Candidate}
use Rattle.cudf_referee.specs.Promises.Walks.{Walking}
use Rattle.cudf_referee.specs.Proposals.{holds_place}
use Rattle.cudf_referee.specs.Working.PackageInstancesLeft.{Fits}
use Rattle.cudf_referee.proofs.ListLemmas.{and_true}
use Rattle.cudf_referee.proofs.StatusLemmas.{holds-filter, holds-enumerate}

-- the packages from it on
pub packages-from : (packages : List PlainPackage) (i : ℕ) (p : PlainPackage) → slice_get packages i ≡ Some p → drop i (enumerate_from 1 packages) ≡ (i + 1, p) ∷ drop (i + 1) (enumerate_from 1 packages)
packages-from packages i p is =
    at_drop_more (λ (ps : List Placed). ps) all i (0, p) (omega (arith, below, length-enumerate_from 1 packages))
    ∙ ap (λ (q : Placed). q ∷ drop (i + 1) all) (get_or-enumerate_from 1 packages i (0, p) below ∙ (λ j. (number j, get_or_from_slice_get packages i p p is j)))
  where
    all : List Placed
    all = enumerate_from 1 packages

    below : i < length packages
    below = slice_get_within packages i p is

    number : 1 + i ≡ i + 1
    number = omega arith

-- the status of a test holds the place where it passes the test
pub held-at : (t : ℕ → Bool) (xs : List PlainPackage) (i : ℕ) → i < length xs → holds_place (members t xs) (i + 1) ≡ t (i + 1)
held-at t xs i below = ap (holds_place (members t xs)) number ∙ holds-filter t (enumerate_from 1 xs) (1 + i)
    ∙ ap (λ b. t (1 + i) && b) (holds-enumerate 1 xs i below) ∙ and_true (t (1 + i)) ∙ ap t (sym number)
  where
    number : i + 1 ≡ 1 + i
    number = omega arith

-- it was installed where it says so
pub initial-at : (problem : PlainProblem) (i : ℕ) (p : PlainPackage) → slice_get problem.packages i ≡ Some p → is_initial problem (i + 1) ≡ p.installed
initial-at problem i p is = ap (λ o. option_map_or (λ q. q.installed) o false) place
  where
    place : package_at problem (i + 1) ≡ Some p
    place = (λ j. cond (ne_eqb (i + 1) 0 (λ e. omega arith) j) None (slice_get problem.packages (i + 1 - 1)))
        ∙ ap (slice_get problem.packages) {x = i + 1 - 1} {y = i} (omega arith) ∙ is

-- the proposal of the same walk
pub fits-same : (a b : Walking) (c : Candidate) → a ≡ b → Fits a.judged c → Fits b.judged c
fits-same a b c same fits = subst (λ (w : Walking). Fits w.judged c) same fits
