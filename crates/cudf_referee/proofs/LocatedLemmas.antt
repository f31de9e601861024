-- All instances of a proposal are where their keys say, and so are those at the stops that are left.
use Rattle.std.proofs.Common.{◌≡◌, ◌+◌, ◌-◌, ◌&&◌, List, [], ◌∷◌, ◌++◌, map, Some, ap, ◌∙◌, refl, subst, arith}
use Rattle.std.specs.Prelude.{All, slice_get, option_map}
use Rattle.std.proofs.lemmas.List.Elements.{All-nil, All-cons, All-head, All-tail, All-map}
use Rattle.std.proofs.lemmas.Option.{slice_get-map, slice_get_within}
use Rattle.cudf_referee.specs.Proposals.{Proposal}
use Rattle.cudf_referee.specs.Promises.Stops.{Stop, walk}
use Rattle.cudf_referee.specs.Violations.{has_package, unknown_instance}
use Rattle.cudf_referee.specs.Working.Named.{keeps_name, has_kept_name}
use Rattle.cudf_referee.specs.Working.Located.{IsLocated, IsStopLocated}
use Rattle.cudf_referee.proofs.ComesLemmas.{IsTail}
use Rattle.cudf_referee.proofs.EachLemmas.{Each, all-stops}
use Rattle.cudf_referee.proofs.GroundLemmas.{held-at}

pub all-located : (s : Proposal) → All (IsStopLocated s) (walk s)
all-located s = all-stops (IsLocated s) s each
  where
    each : Each (IsLocated s) s
    each = record {
      depends = λ i p is j c at. tt;
      conflicts = λ i p is j v at status. refl;
      version = λ i p is test. held-at test s.problem.packages i (slice_get_within s.problem.packages i p is);
      name = λ i p is keeps. (
        omega arith,
        ap (slice_get (map (has_kept_name s.proposed) s.problem.packages)) {x = i + 1 - 1} {y = i} (omega arith) ∙ slice_get-map (has_kept_name s.proposed) s.problem.packages i
            ∙ ap (option_map (has_kept_name s.proposed)) is ∙ ap (λ k. Some (keeps_name k && has_package s.proposed p.name)) keeps,
      );
      feature = λ i p is j v at. tt;
      install = λ j v at. tt;
      remove = λ j v at. tt;
      upgrade = λ j v at aspect. ap (slice_get s.problem.request.upgrade) {x = j + 1 - 1} {y = j} (omega arith) ∙ at;
      unknown = All-map (IsLocated s) unknown_instance s.unknown (λ k d inside. tt);
    }

-- ---- the stops that are left

module _ {A : Type 0} (P : A → Type 0) where
  pub all-left : (xs ys : List A) → All P (xs ++ ys) → All P xs
  all-left [] ys all = All-nil P
  all-left (x ∷ xs) ys all = All-cons P x xs (All-head P x (xs ++ ys) all) (all-left xs ys (All-tail P x (xs ++ ys) all))

  pub all-right : (xs ys : List A) → All P (xs ++ ys) → All P ys
  all-right [] ys all = all
  all-right (x ∷ xs) ys all = all-right xs ys (All-tail P x (xs ++ ys) all)

module _ (P : Stop → Type 0) where
  pub tail-located : (all rest : List Stop) → IsTail all rest → All P all → All P rest
  tail-located all rest tail located = all-right P tail.before rest (subst (All P) tail.is located)

  pub next-located : (all rest : List Stop) (x : Stop) (more : List Stop) → rest ≡ x ∷ more → IsTail all rest → All P all → P x
  next-located all rest x more same tail located = All-head P x more (subst (All P) same (tail-located all rest tail located))
