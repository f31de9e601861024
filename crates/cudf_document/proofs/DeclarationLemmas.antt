-- Declarations, one after the other.
use Rattle.std.proofs.Common.{◌≡◌, ℕ, ◌≤◌, Bool, true, false, ◌&&◌, List, [], ◌∷◌, ◌++◌, map, length, take, Some, None, Option, find, filter_map, refl, sym, ap, ◌∙◌, arith, if◌then◌else◌, option_map, option_to_list, is_some, is_none, bytes_eq}
use Rattle.std.proofs.Math.Bool.{and-true}
use Rattle.std.proofs.lemmas.List.{append_assoc, take-append-le, length-take}
use Rattle.std.proofs.lemmas.List.Elements.{filter_map-append}
use Rattle.std.proofs.lemmas.List.Folds.{list_all-append}
use Rattle.std.specs.List.{list_all}
use Rattle.cudf_value.specs.Declarations.{PlainDeclaration}
use Rattle.cudf_document.specs.Working.Tests.{declared_test}
use Rattle.cudf_value.specs.Parts.{look_up}
use Rattle.cudf_problem.specs.Documents.{with_earlier}
use Rattle.cudf_problem.specs.Preamble.{is_declarable}
use Rattle.cudf_document.specs.Working.Judging.{all_declarable, name_without_default}
use Rattle.cudf_problem.proofs.ListLemmas.{as_list, with_earlier-push}

-- the test of a declared name is that of its first declaration
pub test_of-declared : (name : List ℕ) (ds : List PlainDeclaration)
    → look_up name (map declared_test ds) ≡ option_map (λ d. (declared_test d).1) (find (λ d. bytes_eq name d.name) ds)
test_of-declared name [] = refl
test_of-declared name (d ∷ ds) = by (bytes_eq name d.name) (test_of-declared name ds)
  where
    by : (b : Bool) → look_up name (map declared_test ds) ≡ option_map (λ e. (declared_test e).1) (find (λ e. bytes_eq name e.name) ds)
        → (if b then Some ((declared_test d).1) else look_up name (map declared_test ds))
        ≡ option_map (λ e. (declared_test e).1) (if b then Some d else find (λ e. bytes_eq name e.name) ds)
    by true rest = refl
    by false rest = rest

pub all_declarable-push : (before ds : List PlainDeclaration) (d : PlainDeclaration)
    → all_declarable before (ds ++ d ∷ []) ≡ (all_declarable before ds && is_declarable (before ++ ds, d))
all_declarable-push before ds d =
    ap (list_all is_declarable) (with_earlier-push before ds d)
    ∙ list_all-append is_declarable (with_earlier before ds) ((before ++ ds, d) ∷ [])
    ∙ ap (λ b. all_declarable before ds && b) (and-true (is_declarable (before ++ ds, d)))

-- what was added so far: all of them, as long as all could be
pub record Added (before now ds : List PlainDeclaration) (all : Bool) : Type 0 where
  pub are_all : all ≡ all_declarable before ds
  pub added : all ≡ true → now ≡ before ++ ds
  pub kept : take (length before) now ≡ before

-- one more, where it is allowed after those that are there
pub Added-next : (before now ds : List PlainDeclaration) (d : PlainDeclaration) (all is_added : Bool) (new : List PlainDeclaration)
    → Added before now ds all → is_added ≡ is_declarable (now, d) → new ≡ (if is_added then now ++ d ∷ [] else now)
    → Added before new (ds ++ d ∷ []) (all && is_added)
Added-next before now ds d all is_added new so_far is new_is = record {
  are_all = whole all so_far.are_all so_far.added ∙ sym (all_declarable-push before ds d);
  added = more all is_added so_far.added new_is;
  kept = ap (take (length before)) new_is ∙ still is_added;
}
  where
    whole : (a : Bool) → a ≡ all_declarable before ds → (a ≡ true → now ≡ before ++ ds) → (a && is_added) ≡ (all_declarable before ds && is_declarable (before ++ ds, d))
    whole true good there = (λ i. good i && (is ∙ ap (λ l. is_declarable (l, d)) (there refl)) i)
    whole false bad there = ap (λ b. b && is_declarable (before ++ ds, d)) bad

    more : (a b : Bool) → (a ≡ true → now ≡ before ++ ds) → new ≡ (if b then now ++ d ∷ [] else now) → (a && b) ≡ true → new ≡ before ++ (ds ++ d ∷ [])
    more true true there pushed _ = pushed ∙ ap (λ l. l ++ d ∷ []) (there refl) ∙ append_assoc before ds (d ∷ [])
    more _ _ there pushed h = absurd cc

    inside : length before ≤ length now
    inside = let n = length-take (length before) now in let m = ap length so_far.kept in omega (arith, n, m)

    still : (b : Bool) → take (length before) (if b then now ++ d ∷ [] else now) ≡ before
    still true = take-append-le (length before) now (d ∷ []) inside ∙ so_far.kept
    still false = so_far.kept

-- ---- the names without default

-- there is one where there is no default
pub named_unless : (d : PlainDeclaration) (has : Bool) → has ≡ is_some d.default → option_to_list (name_without_default d) ≡ (if has then [] else d.name ∷ [])
named_unless d has is = by d.default has is
  where
    by : (o : Option (List ℕ)) (b : Bool) → b ≡ is_some o → option_to_list (if is_none o then Some d.name else None) ≡ (if b then [] else d.name ∷ [])
    by None false h = refl
    by (Some x) true h = refl
    by _ _ h = absurd cc

pub required_more : (names more : List (List ℕ)) (ds : List PlainDeclaration) (d : PlainDeclaration) → names ≡ filter_map name_without_default ds
    → more ≡ names ++ option_to_list (name_without_default d) → more ≡ filter_map name_without_default (ds ++ d ∷ [])
required_more names more ds d so_far more_is =
    more_is ∙ (λ i. so_far i ++ as_list (name_without_default d) i) ∙ sym (filter_map-append name_without_default ds (d ∷ []))
