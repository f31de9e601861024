-- The clauses of an instance, by what it says.
use Rattle.std.proofs.Common.{◌≡◌, ℕ, ◌<◌, ◌^◌, false, List, ◌++◌, length, sym, subst, ap, ◌∙◌, arith, refl}
use Rattle.std.specs.Prelude.{Result, OnOk, Some, Option}
use Rattle.std.specs.List.{enumerate_from, flat_map}
use Rattle.cudf_problem.specs.Statuses.{is_initial}
use Rattle.cudf_problem.specs.Universe.{PlainProblem}
use Rattle.cudf_value.specs.declared.vpkg.Vpkg.{Vpkg}
use Rattle.cudf_value.specs.Vpkgs.{PlainVpkg}
use Rattle.cudf_index.specs.Satisfaction.{Placed, members}
use Rattle.cudf_job.specs.declared.key.Aspect.{Aspect}
use Rattle.cudf_job.specs.declared.key.Aspect.TheVariants.{Many}
use Rattle.cudf_job.specs.Keys.{part_place}
use Rattle.cudf_referee.specs.Instances.{PlainInstance, PlainWhat, upgrade}
use Rattle.cudf_referee.specs.declared.instance.Requirement.{Requirement}
use Rattle.cudf_referee.specs.declared.instance.Requirement.TheVariants.{Needs, ConflictsWith, KeepVersion, KeepPackage, KeepFeature, Install, Remove, Upgrade, Unknown}
use Rattle.cudf_referee.specs.Promises.Views.{what_view}
use Rattle.cudf_referee.specs.Promises.Where.{IsOfPackage, IsWhatWhere, IsWhere}
use Rattle.cudf_cnf.specs.Cnf.{Keyed, keyed_clauses, upgrade_clauses, what_clauses}
use Rattle.cudf_cnf.specs.Working.Parts.{IsPlace, differing_at, givers_of, is_many_what, keyed}
use Rattle.cudf_cnf.proofs.PlaceLemmas.{put_as}
use Rattle.cudf_cnf.proofs.UpgradeLemmas.{givers_same}

pub where_is : (problem : PlainProblem) (i : PlainInstance) (w : PlainWhat) → i.what ≡ w → IsWhere problem i → IsWhatWhere problem i w
where_is problem i w is h = subst (IsWhatWhere problem i) is h

-- the place of its package
pub package_place : (problem : PlainProblem) (i : PlainInstance) (places : ℕ) → IsOfPackage problem i → places ≡ length problem.packages → length problem.packages < 2 ^ 32 → IsPlace places (part_place i.key.part)
package_place problem i places h same few =
    subst (IsPlace places) (sym (ap part_place h.part)) (record { from_one = h.counted; within = omega (arith, h.within); small = omega (arith, h.within) })

-- what was put, by what it says
pub arm : {E : Type 0} (r : Result (Unit {0}) E) (new old : List Keyed) (problem : PlainProblem) (i : PlainInstance) (w : PlainWhat) (all : List Placed) → i.what ≡ w → all ≡ enumerate_from 1 problem.packages
    → OnOk r (new ≡ old ++ keyed i.key (what_clauses all (members (is_initial problem) problem.packages) i w)) → OnOk r (new ≡ old ++ keyed_clauses problem i)
arm r new old problem i w all is every h =
    put_as r new old (keyed i.key (what_clauses all (members (is_initial problem) problem.packages) i w)) (keyed_clauses problem i)
    (λ j. keyed i.key (what_clauses (every j) (members (is_initial problem) problem.packages) i (sym is j))) h

-- those of `many`, by places
pub many_arm : (problem : PlainProblem) (i : PlainInstance) (v : PlainVpkg) (all : List Placed) → i.what ≡ upgrade v → i.key.aspect ≡ Some Many → all ≡ enumerate_from 1 problem.packages
    → keyed i.key (flat_map (differing_at all v.name) (givers_of all v.name)) ≡ keyed_clauses problem i
many_arm problem i v all is aspect every =
    ap (λ (ps : List Placed). keyed i.key (flat_map (differing_at ps v.name) (givers_of ps v.name))) every
    ∙ ap (keyed i.key) (givers_same problem.packages v.name)
    ∙ ap (λ (a : Option Aspect). keyed i.key (upgrade_clauses (enumerate_from 1 problem.packages) (members (is_initial problem) problem.packages) v a)) (sym aspect)
    ∙ ap (λ (w : PlainWhat). keyed i.key (what_clauses (enumerate_from 1 problem.packages) (members (is_initial problem) problem.packages) i w)) (sym is)

-- what isn't an entry of `upgrade`
pub not_many : (w : Requirement) (a : Option Aspect) → ((v : Vpkg) → w ≡ Upgrade v → ⊥) → is_many_what (what_view w) a ≡ false
not_many (Needs clause) a h = refl
not_many (ConflictsWith v) a h = refl
not_many KeepVersion a h = refl
not_many KeepPackage a h = refl
not_many (KeepFeature v) a h = refl
not_many (Install v) a h = refl
not_many (Remove v) a h = refl
not_many (Upgrade v) a h = absurd (h v refl)
not_many Unknown a h = refl
