-- The instances of a problem are where their keys say, and those that a proposal violates are among them.
use Rattle.std.proofs.Common.{◌≡◌, ℕ, suc, ◌+◌, ◌-◌, ◌<◌, Bool, true, false, List, [], ◌∷◌, ◌++◌, length, cond, arith, refl, ap, ◌∙◌, subst, Some}
use Rattle.std.specs.Prelude.{All, Contains, slice_get}
use Rattle.std.specs.List.{flat_map, enumerate_from}
use Rattle.std.proofs.lemmas.List.Elements.{All-nil, All-append, All-filter, Contains-get_or}
use Rattle.std.proofs.lemmas.Option.{slice_get_within}
use Rattle.cudf_problem.specs.Statuses.{is_initial}
use Rattle.cudf_problem.specs.Universe.{PlainPackage, PlainProblem, package_id}
use Rattle.cudf_index.specs.Satisfaction.{Placed}
use Rattle.cudf_job.specs.declared.key.Part.TheVariants as part
use Rattle.cudf_referee.specs.Instances.{PlainInstance}
use Rattle.cudf_referee.specs.Proposals.{Proposal, everything, holds_place, proposal}
use Rattle.cudf_referee.specs.Promises.Where.{IsOfPackage, IsWhere}
use Rattle.cudf_referee.specs.Violations.{needed_instances, kept_instances, package_instances, request_instances, instances, problem_instances, is_violated, listing}
use Rattle.cudf_referee.proofs.EachLemmas.{all-instances}
use Rattle.cudf_referee.proofs.GroundLemmas.{held-at}
use Rattle.cudf_referee.proofs.LocatedLemmas.{all-left, all-right}

-- ---- where they are

unfoldable of-package : (problem : PlainProblem) (n : ℕ) (p : PlainPackage) (i : PlainInstance) → slice_get problem.packages n ≡ Some p → i.key.part ≡ part.Package (n + 1) → i.subject ≡ Some (package_id p) → IsOfPackage problem i
of-package problem n p i is same subject = record {
  place = n + 1;
  of = p;
  part = same;
  counted = omega arith;
  within = omega (arith, slice_get_within problem.packages n p is);
  is = ap (slice_get problem.packages) {x = n + 1 - 1} {y = n} (omega arith) ∙ is;
  subject = subject;
}

-- each instance of a problem is where its key says
pub all_where : (problem : PlainProblem) → All (IsWhere problem) (problem_instances problem)
all_where problem = all-instances (IsWhere problem) (everything problem) (record {
  depends = λ n p is j c at. of-package problem n p _ is refl refl;
  conflicts = λ n p is j v at. of-package problem n p _ is refl refl;
  version = λ n p is. of-package problem n p _ is refl refl;
  name = λ n p is keeps. of-package problem n p _ is refl refl;
  feature = λ n p is j v at. of-package problem n p _ is refl refl;
  install = λ j v at. refl;
  remove = λ j v at. refl;
  upgrade = λ j v at aspect. record {
    part = refl;
    counted = omega arith;
    is = ap (slice_get problem.request.upgrade) {x = j + 1 - 1} {y = j} (omega arith) ∙ at;
  };
  unknown = All-nil (IsWhere problem);
})

-- ---- those of a proposal

module _ (P : PlainInstance → Type 0) where
  kept_of : (b c : Bool) (xs ys : List PlainInstance) → b ≡ true → All P (cond b xs [] ++ ys) → All P (cond c xs [] ++ ys)
  kept_of b true xs ys h all = subst (λ (d : Bool). All P (cond d xs [] ++ ys)) h all
  kept_of b false xs ys h all = all-right P (cond b xs []) ys all

  -- what holds of all instances of packages holds of those of a proposal with the same initial status
  packages_of : (e s : Proposal) (n : ℕ) (packages : List PlainPackage) → e.initial ≡ s.initial → ((i : ℕ) → i < length packages → holds_place e.proposed (n + i) ≡ true)
      → All P (flat_map (package_instances e) (enumerate_from n packages)) → All P (flat_map (package_instances s) (enumerate_from n packages))
  packages_of e s n [] same held all = all
  packages_of e s n (p ∷ packages) same held all =
      let rest = flat_map (package_instances e) (enumerate_from (n + 1) packages) in
      let here : n + 0 ≡ n = omega arith in
      All-append P (package_instances s (n, p)) (flat_map (package_instances s) (enumerate_from (n + 1) packages))
      (subst (λ (status : List Placed). All P (cond (holds_place s.proposed n) (needed_instances (n, p)) [] ++ cond (holds_place status n) (kept_instances p.keep (n, p)) [])) same
      (kept_of (holds_place e.proposed n) (holds_place s.proposed n) (needed_instances (n, p)) (cond (holds_place e.initial n) (kept_instances p.keep (n, p)) [])
      (subst (λ (m : ℕ). holds_place e.proposed m ≡ true) here (held 0 (omega arith)))
      (all-left P (package_instances e (n, p)) rest all)))
      (packages_of e s (n + 1) packages same
      (λ i inside. let later : n + suc i ≡ n + 1 + i = omega arith in subst (λ (m : ℕ). holds_place e.proposed m ≡ true) later (held (suc i) (omega arith)))
      (all-right P (package_instances e (n, p)) rest all))

  -- and with no unknown stanzas
  instances_of : (problem : PlainProblem) (is_installed : ℕ → Bool) → All P (problem_instances problem) → All P (instances (proposal problem (is_initial problem) is_installed []))
  instances_of problem is_installed all =
      let e = everything problem in
      let s = proposal problem (is_initial problem) is_installed [] in
      let own : List PlainInstance = flat_map (package_instances e) (enumerate_from 1 problem.packages) in
      let both = all-left P (own ++ request_instances problem.request) [] all in
      All-append P (flat_map (package_instances s) (enumerate_from 1 problem.packages) ++ request_instances problem.request) []
      (All-append P (flat_map (package_instances s) (enumerate_from 1 problem.packages)) (request_instances problem.request)
      (packages_of e s 1 problem.packages refl
      (λ i inside. let number : i + 1 ≡ 1 + i = omega arith in subst (λ (m : ℕ). holds_place e.proposed m ≡ true) number (held-at (λ place. true) problem.packages i inside))
      (all-left P own (request_instances problem.request) both))
      (all-right P own (request_instances problem.request) both))
      (All-nil P)

-- what a status of the problem violates is one of its instances
pub listed_is_of_problem : (problem : PlainProblem) (is_installed : ℕ → Bool) (i : PlainInstance) → Contains (listing (proposal problem (is_initial problem) is_installed [])) i → Contains (problem_instances problem) i
unfolding listing
listed_is_of_problem problem is_installed i is =
    let s = proposal problem (is_initial problem) is_installed [] in
    let P : PlainInstance → Type 0 = Contains (problem_instances problem) in
    subst P is.2 (All-filter (is_violated s) P (instances s) (instances_of P problem is_installed (Contains-get_or (problem_instances problem))) is.0 i is.1)
