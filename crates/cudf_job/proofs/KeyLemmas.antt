-- The derived comparisons of keys are those of the definitions.
use Rattle.std.proofs.Common.{◌≡◌, ◌↔◌, ℕ, ◌==◌, Bool, true, List, [], ◌∷◌, Option, Some, None, refl, ap, sym, ◌∙◌, slice_index_or, if◌then◌else◌}
use Rattle.std.proofs.lemmas.Map.Text.{is_eq-slice_cmp}
use Rattle.std.proofs.lemmas.Slice.Eq.{bytes_eq-Decides}
use Rattle.std.specs.Cmp.Lexicographic.{slice_cmp}
use Rattle.std.specs.Ordering.{nat_cmp, ordering_then, is_eq}
use Rattle.std.specs.Option.{option_cmp}
use Rattle.std.specs.declared.cmp.Ordering.{Ordering}
use Rattle.std.specs.declared.cmp.Ordering.TheVariants.{Equal}
use Rattle.cudf_job.specs.declared.key.Part.{Part}
use Rattle.cudf_job.specs.declared.key.Part.TheVariants.{Package, Request, Solution}
use Rattle.cudf_job.specs.declared.key.Rule.{Rule}
use Rattle.cudf_job.specs.declared.key.Rule.TheVariants.{Depends, Conflicts, Keep, Install, Remove, Upgrade, Unknown}
use Rattle.cudf_job.specs.declared.key.Aspect.{Aspect}
use Rattle.cudf_job.specs.declared.key.Aspect.TheVariants.{Unsatisfied, Many, Lower}
use Rattle.cudf_job.specs.contracts.key.PartOrd.TheImpl as part_order
use Rattle.cudf_job.specs.contracts.key.RuleOrd.TheImpl as rule_order
use Rattle.cudf_job.specs.contracts.key.AspectOrd.TheImpl as aspect_order
use Rattle.cudf_job.specs.Keys.{PlainKey, part_row, part_place, rule_row, aspect_row, key_ranks, key_cmp}

-- ---- a proof for each variant is one for all

every_rule : (P : Rule → Type 0) → P Depends → P Conflicts → P Keep → P Install → P Remove → P Upgrade → P Unknown → (r : Rule) → P r
every_rule P depends conflicts keep install remove upgrade unknown Depends = depends
every_rule P depends conflicts keep install remove upgrade unknown Conflicts = conflicts
every_rule P depends conflicts keep install remove upgrade unknown Keep = keep
every_rule P depends conflicts keep install remove upgrade unknown Install = install
every_rule P depends conflicts keep install remove upgrade unknown Remove = remove
every_rule P depends conflicts keep install remove upgrade unknown Upgrade = upgrade
every_rule P depends conflicts keep install remove upgrade unknown Unknown = unknown

every_aspect : (P : Option Aspect → Type 0) → P None → P (Some Unsatisfied) → P (Some Many) → P (Some Lower) → (a : Option Aspect) → P a
every_aspect P none unsatisfied many lower None = none
every_aspect P none unsatisfied many lower (Some Unsatisfied) = unsatisfied
every_aspect P none unsatisfied many lower (Some Many) = many
every_aspect P none unsatisfied many lower (Some Lower) = lower

-- ---- order

pub parts_ranked : (a b : Part) (o : Ordering) → ordering_then (part_order.cmp-value.it a b) o ≡ ordering_then (nat_cmp (part_row a).0 (part_row b).0) (ordering_then (nat_cmp (part_place a) (part_place b)) o)
parts_ranked (Package m) (Package n) o = refl
parts_ranked (Package m) Request o = refl
parts_ranked (Package m) Solution o = refl
parts_ranked Request (Package n) o = refl
parts_ranked Request Request o = refl
parts_ranked Request Solution o = refl
parts_ranked Solution (Package n) o = refl
parts_ranked Solution Request o = refl
parts_ranked Solution Solution o = refl

pub rules_ranked : (a b : Rule) → rule_order.cmp-value.it a b ≡ nat_cmp (rule_row a).0 (rule_row b).0
rules_ranked = every_rule (λ a. (b : Rule) → rule_order.cmp-value.it a b ≡ nat_cmp (rule_row a).0 (rule_row b).0)
    (every_rule _ refl refl refl refl refl refl refl)
    (every_rule _ refl refl refl refl refl refl refl)
    (every_rule _ refl refl refl refl refl refl refl)
    (every_rule _ refl refl refl refl refl refl refl)
    (every_rule _ refl refl refl refl refl refl refl)
    (every_rule _ refl refl refl refl refl refl refl)
    (every_rule _ refl refl refl refl refl refl refl)

pub aspects_ranked : (a b : Option Aspect) → option_cmp aspect_order.cmp-value.it a b ≡ ordering_then (nat_cmp (aspect_row a).0 (aspect_row b).0) Equal
aspects_ranked = every_aspect (λ a. (b : Option Aspect) → option_cmp aspect_order.cmp-value.it a b ≡ ordering_then (nat_cmp (aspect_row a).0 (aspect_row b).0) Equal)
    (every_aspect _ refl refl refl refl)
    (every_aspect _ refl refl refl refl)
    (every_aspect _ refl refl refl refl)
    (every_aspect _ refl refl refl refl)

-- the comparison that is derived, from the left
pub key_ranked : (p q : Part) (r s : Rule) (m n : ℕ) (x y : Option Aspect)
    → ordering_then (part_order.cmp-value.it p q) (ordering_then (rule_order.cmp-value.it r s) (ordering_then (nat_cmp m n) (option_cmp aspect_order.cmp-value.it x y)))
    ≡ slice_cmp nat_cmp ((part_row p).0 ∷ part_place p ∷ (rule_row r).0 ∷ m ∷ (aspect_row x).0 ∷ []) ((part_row q).0 ∷ part_place q ∷ (rule_row s).0 ∷ n ∷ (aspect_row y).0 ∷ [])
key_ranked p q r s m n x y = rw (rules_ranked r s, aspects_ranked x y) (parts_ranked p q _)

-- ---- equality

-- a key of these ranks
abbrev part_back : ℕ → ℕ → Part
part_back rank n = if rank == 1 then Package n else if rank == 2 then Request else Solution

abbrev rule_back : ℕ → Rule
rule_back rank =
    if rank == 1 then Depends else if rank == 2 then Conflicts else if rank == 3 then Keep else if rank == 4 then Install
    else if rank == 5 then Remove else if rank == 6 then Upgrade else Unknown

abbrev aspect_back : ℕ → Option Aspect
aspect_back rank = if rank == 0 then None else if rank == 1 then Some Unsatisfied else if rank == 2 then Some Many else Some Lower

abbrev key_back : List ℕ → PlainKey
key_back ranks = record {
  part = part_back (slice_index_or ranks 0 0) (slice_index_or ranks 1 0);
  rule = rule_back (slice_index_or ranks 2 0);
  place = slice_index_or ranks 3 0;
  aspect = aspect_back (slice_index_or ranks 4 0);
}

part_is : (p : Part) → part_back (part_row p).0 (part_place p) ≡ p
part_is (Package n) = refl
part_is Request = refl
part_is Solution = refl

rule_is : (r : Rule) → rule_back (rule_row r).0 ≡ r
rule_is = every_rule (λ r. rule_back (rule_row r).0 ≡ r) refl refl refl refl refl refl refl

aspect_is : (a : Option Aspect) → aspect_back (aspect_row a).0 ≡ a
aspect_is = every_aspect (λ a. aspect_back (aspect_row a).0 ≡ a) refl refl refl refl

key_is : (k : PlainKey) → key_back (key_ranks k) ≡ k
key_is k = rw (part_is k.part, rule_is k.rule, aspect_is k.aspect) refl

pub ranks_tell : (a b : PlainKey) → key_ranks a ≡ key_ranks b → a ≡ b
ranks_tell a b same = sym (key_is a) ∙ ap key_back same ∙ key_is b

-- a test that answers as the order does tells equal keys
pub equal_keys : (a b : PlainKey) (e : Bool) → e ≡ is_eq (key_cmp a b) → (e ≡ true) ↔ (a ≡ b)
equal_keys a b e same = (
  λ h. ranks_tell a b ((bytes_eq-Decides (key_ranks a) (key_ranks b)).0 (sym (is_eq-slice_cmp (key_ranks a) (key_ranks b)) ∙ sym same ∙ h)),
  λ equal. same ∙ is_eq-slice_cmp (key_ranks a) (key_ranks b) ∙ (bytes_eq-Decides (key_ranks a) (key_ranks b)).1 (ap key_ranks equal),
)
