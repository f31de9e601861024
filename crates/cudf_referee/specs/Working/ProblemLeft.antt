-- The instances of a problem, as the code goes through them.
use Rattle.std.specs.Prelude.{◌≡◌, ◌≤◌, ℕ, ◌+◌, List, [], ◌∷◌, ◌++◌, length, drop, slice_get, Option, Some, None}
use Rattle.std.specs.List.{flat_map, enumerate_from}
use Rattle.cudf_problem.specs.Promises.Views.{package_view}
use Rattle.cudf_problem.specs.Universe.{PlainProblem}
use Rattle.cudf_index.specs.Satisfaction.{Placed}
use Rattle.cudf_referee.specs.declared.left.Candidate.{Candidate}
use Rattle.cudf_referee.specs.declared.left.PackageInstancesLeft.{PackageInstancesLeft}
use Rattle.cudf_referee.specs.declared.left.RequestInstancesLeft.{RequestInstancesLeft}
use Rattle.cudf_referee.specs.Instances.{PlainInstance}
use Rattle.cudf_referee.specs.Proposals.{Proposal, everything}
use Rattle.cudf_referee.specs.Violations.{package_instances}
use Rattle.cudf_referee.specs.Working.PackageInstancesLeft.{Fits, left_in}
use Rattle.cudf_referee.specs.Working.RequestInstancesLeft.{request_left_view}

-- the package after so many others, as one that is to be installed
pub record IsPlacedAt (problem : PlainProblem) (index : ℕ) (c : Candidate) : Type 0 where
  pub is : slice_get problem.packages index ≡ Some (package_view c.package.now)
  pub place : c.place ≡ index + 1
  pub fits : Fits (everything problem) c

abbrev pub IsCandidateAt : PlainProblem → ℕ → Option Candidate → Type 0
IsCandidateAt problem index None = length problem.packages ≤ index
IsCandidateAt problem index (Some c) = IsPlacedAt problem index c

-- the instances of these packages, where of the first one these are left
abbrev pub packages_left : Proposal → Option PackageInstancesLeft → List Placed → List PlainInstance
packages_left s left [] = []
packages_left s left (p ∷ ps) = left_in s left p ++ flat_map (package_instances s) ps

-- of all, after so many packages, with what is left of the next one and of the request
abbrev pub left_from : PlainProblem → ℕ → Option PackageInstancesLeft → RequestInstancesLeft → List PlainInstance
left_from problem passed begun request =
    packages_left (everything problem) begun (drop passed (enumerate_from 1 problem.packages)) ++ request_left_view problem.request request
