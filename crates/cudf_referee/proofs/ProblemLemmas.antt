-- The instances of a problem that are left, gone through.
use Rattle.std.proofs.Common.{◌≡◌, ◌≤◌, ℕ, ◌+◌, true, List, [], ◌∷◌, ◌++◌, length, drop, Option, Some, None, refl, ap, sym, ◌∙◌, arith, append_assoc}
use Rattle.std.specs.Prelude.{slice_get}
use Rattle.std.specs.Iterator.{YieldsFirstBy, MakesProgress, item_count}
use Rattle.std.specs.List.{flat_map, enumerate_from}
use Rattle.std.proofs.lemmas.List.{append-nil}
use Rattle.std.proofs.lemmas.List.FromFn.{length-enumerate_from}
use Rattle.std.proofs.lemmas.Option.{slice_get_within}
use Rattle.std.proofs.Math.ListN.{drop_of_length-le}
use Rattle.cudf_problem.specs.Promises.Views.{package_view}
use Rattle.cudf_problem.specs.Statuses.{is_initial}
use Rattle.cudf_problem.specs.Universe.{PlainProblem}
use Rattle.cudf_index.specs.Satisfaction.{Placed, members}
use Rattle.cudf_referee.specs.declared.instance.Instance.{Instance}
use Rattle.cudf_referee.specs.declared.left.Candidate.{Candidate}
use Rattle.cudf_referee.specs.declared.left.PackageInstancesLeft.{PackageInstancesLeft}
use Rattle.cudf_referee.specs.declared.left.RequestInstancesLeft.{RequestInstancesLeft}
use Rattle.cudf_referee.specs.Instances.{PlainInstance}
use Rattle.cudf_referee.specs.Promises.Views.{instance_view}
use Rattle.cudf_referee.specs.Proposals.{Proposal, everything, holds_place}
use Rattle.cudf_referee.specs.Violations.{package_instances, request_instances, problem_instances}
use Rattle.cudf_referee.specs.Working.PackageInstancesLeft.{placed_view, Fits, left_in, left_view}
use Rattle.cudf_referee.specs.Working.ProblemLeft.{IsPlacedAt, packages_left, left_from}
use Rattle.cudf_referee.specs.Working.RequestInstancesLeft.{request_left_view}
use Rattle.cudf_referee.proofs.GroundLemmas.{held-at, initial-at, packages-from}

-- ---- a package

-- where it is there, it is as it is judged
unfoldable pub placed-at : (problem : PlainProblem) (i : ℕ) (c : Candidate) → slice_get problem.packages i ≡ Some (package_view c.package.now) → c.place ≡ i + 1 → c.is_installed ≡ true → IsPlacedAt problem i c
placed-at problem i c is place installed =
    let below = slice_get_within problem.packages i (package_view c.package.now) is in
    record {
      is = is;
      place = place;
      fits = record {
        was = ap (holds_place (members (is_initial problem) problem.packages)) place ∙ held-at (is_initial problem) problem.packages i below ∙ initial-at problem i (package_view c.package.now) is;
        is = ap (holds_place (members (λ n. true) problem.packages)) place ∙ held-at (λ n. true) problem.packages i below ∙ sym installed;
      };
    }

-- ---- all of them

left-whole : (s : Proposal) (ps : List Placed) → packages_left s None ps ≡ flat_map (package_instances s) ps
left-whole s [] = refl
left-whole s (p ∷ ps) = refl

pub from-start : (problem : PlainProblem) (r : RequestInstancesLeft) → request_left_view problem.request r ≡ request_instances problem.request → left_from problem 0 None r ≡ problem_instances problem
from-start problem r whole =
    (λ i. left-whole (everything problem) (enumerate_from 1 problem.packages) i ++ whole i)
    ∙ sym (append-nil (flat_map (package_instances (everything problem)) (enumerate_from 1 problem.packages) ++ request_instances problem.request))

module _ (problem : PlainProblem) (r : RequestInstancesLeft) (k : Option PackageInstancesLeft) (i : ℕ) where
  -- after all packages
  pub from-end : length problem.packages ≤ i → left_from problem i k r ≡ request_left_view problem.request r
  from-end h = ap (λ ps. packages_left (everything problem) k ps ++ request_left_view problem.request r) (drop_of_length-le (enumerate_from 1 problem.packages) (omega (arith, length-enumerate_from 1 problem.packages)))

  module _ (c : Candidate) (at : IsPlacedAt problem i c) (now : PackageInstancesLeft) (same : (s : Proposal) → Fits s c → left_view (placed_view c) now ≡ left_in s k (placed_view c)) where
    -- the next package, and those after it
    from-next : left_from problem i k r ≡ left_view (placed_view c) now ++ left_from problem (i + 1) None r
    from-next =
        ap (λ ps. packages_left s k ps ++ request) (packages-from problem.packages i (package_view c.package.now) at.is)
        ∙ (λ j. (left_in s k (sym at.place j, package_view c.package.now) ++ sym (left-whole s later) j) ++ request)
        ∙ ap (λ xs. (xs ++ packages_left s None later) ++ request) (sym (same s at.fits))
        ∙ append_assoc (left_view (placed_view c) now) (packages_left s None later) request
      where
        s : Proposal
        s = everything problem

        later : List Placed
        later = drop (i + 1) (enumerate_from 1 problem.packages)

        request : List PlainInstance
        request = request_left_view problem.request r

    pub from-passed : left_view (placed_view c) now ≡ [] → left_from problem i k r ≡ left_from problem c.place None r
    from-passed none = from-next ∙ ap (λ xs. xs ++ left_from problem (i + 1) None r) none ∙ ap (λ n. left_from problem n None r) (sym at.place)

-- the next instance
pub from-found : (problem : PlainProblem) (r : RequestInstancesLeft) (k : Option PackageInstancesLeft) (i : ℕ) (c : Candidate) (at : IsPlacedAt problem i c) (now later : PackageInstancesLeft) (x : PlainInstance)
    → ((s : Proposal) → Fits s c → left_view (placed_view c) now ≡ left_in s k (placed_view c)) → left_view (placed_view c) now ≡ x ∷ left_view (placed_view c) later
    → left_from problem i k r ≡ x ∷ left_from problem i (Some later) r
from-found problem r k i c at now later x same next =
    from-next problem r k i c at now same ∙ ap (λ xs. xs ++ left_from problem (i + 1) None r) next
    ∙ ap (λ xs. x ∷ xs) (sym (from-next problem r (Some later) i c at later (λ s fits. refl)))

-- after all packages, what the request gives is what is given
pub from-request : (start : List PlainInstance) (problem : PlainProblem) (r later : RequestInstancesLeft) (k : Option PackageInstancesLeft) (i : ℕ) (found : Option Instance) → left_from problem i k r ≡ start → length problem.packages ≤ i
    → YieldsFirstBy instance_view (request_left_view problem.request) r found later → YieldsFirstBy instance_view (λ (xs : List PlainInstance). xs) start found (left_from problem i k later)
from-request start problem r later k i None same end gives = (sym same ∙ from-end problem r k i end ∙ gives.0, from-end problem later k i end ∙ gives.1)
from-request start problem r later k i (Some x) same end gives =
    sym same ∙ from-end problem r k i end ∙ gives ∙ ap (λ xs. instance_view x ∷ xs) (sym (from-end problem later k i end))

-- a call makes progress
pub progress : {S : Type 0} (can : S → Type 0) (left : S → List PlainInstance) → ((s : S) → can s) → (old : S) (r : Option Instance) (new : S) → YieldsFirstBy instance_view left old r new → MakesProgress can (item_count left) old r new
progress can left allowed old None new gives = record { on = λ h. tt; keeps = tt; rests = λ h. tt }
progress can left allowed old (Some i) new gives = record { on = λ h. (allowed new, tt, omega (arith, ap length gives)); keeps = allowed new; rests = λ h. tt }
