-- The place of the first provision that passes a test, in one row after another, and in the halves of a node.
use Rattle.std.proofs.Common.{◌≡◌, ℕ, Bool, List, ◌++◌, Option, Some, None, refl, sym, ap, ◌∙◌, subst, Box}
use Rattle.std.specs.Prelude.{find, option_map}
use Rattle.std.specs.Option.{option_or}
use Rattle.std.specs.declared.alloc.Global.{Global}
use Rattle.std.proofs.lemmas.List.Folds.{find-append}
use Rattle.cudf_index.specs.Working.Gathering.{Completes}
use Rattle.cudf_index.specs.Working.Trees.{provisions, AreHalves, Holds}
use Rattle.cudf_index.specs.declared.index.gathered_names.Entries.{Entries}
use Rattle.cudf_index.specs.declared.index.gathered_names.Provision.{Provision}
use Rattle.cudf_index.specs.declared.index.named_trees.Node.{Node}
use Rattle.cudf_index.specs.declared.index.named_trees.Node.TheVariants.{Halves}
use Rattle.cudf_index.specs.declared.index.named_trees.ProvisionTree.{ProvisionTree}

module _ (test : Provision → Bool) where
  abbrev first : List Provision → Option ℕ
  first row = option_map (λ g. g.place) (find test row)

  pub first-append : (xs ys : List Provision) → first (xs ++ ys) ≡ option_or (first xs) (first ys)
  first-append xs ys = ap (option_map (λ (g : Provision). g.place)) (find-append test xs ys) ∙ by (find test xs)
    where
      by : (o : Option Provision) → option_map (λ g. g.place) (option_or o (find test ys)) ≡ option_or (option_map (λ g. g.place) o) (first ys)
      by None = refl
      by (Some g) = refl

  module _ (node : Node) (row : List Provision) (entries : Box Entries Global) (front back : Box ProvisionTree Global) (view : provisions node ≡ row) (holds : Holds node) (is : node ≡ Halves entries front back) where
    joined : row ≡ front.value ++ back.value
    joined = sym view ∙ ap provisions is

    pub in_back : (here later : Option ℕ) → here ≡ first front.value → later ≡ first back.value → here ≡ None → later ≡ first row
    in_back here later before behind none = behind ∙ ap (λ o. option_or o (first back.value)) (sym none ∙ before) ∙ sym (ap first joined ∙ first-append front.value back.value)

    -- where what is kept says that the first half has none
    pub in_second : (later : Option ℕ) → ((xs : List Provision) → Completes xs entries.value → first xs ≡ None) → later ≡ first back.value → later ≡ first row
    in_second later never behind = let halves : AreHalves entries.value front.value back.value = subst Holds is holds in
        in_back None later (sym (never front.value halves.first)) behind refl

    pub in_front : (here : Option ℕ) → here ≡ first front.value → (here ≡ None → ⊥) → here ≡ first row
    in_front here before some = kept here some ∙ ap (λ o. option_or o (first back.value)) before ∙ sym (ap first joined ∙ first-append front.value back.value)
      where
        kept : (o : Option ℕ) → (o ≡ None → ⊥) → o ≡ option_or o (first back.value)
        kept None some = absurd (some refl)
        kept (Some n) some = refl
