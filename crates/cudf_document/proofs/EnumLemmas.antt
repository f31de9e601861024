-- The names by which an enum's values are looked up.
use Rattle.std.proofs.Common.{ℕ, ◌||◌, List, [], ◌∷◌, ◌++◌, map, Bor, sym, ap, ◌∙◌, bytes_eq}
use Rattle.std.proofs.Math.Bool.{or-false}
use Rattle.std.proofs.lemmas.List.{map_push}
use Rattle.std.proofs.lemmas.List.Folds.{list_any-append}
use Rattle.std.specs.List.{list_any}
use Rattle.indexmap.specs.IndexSet.{insert_key}
use Rattle.cudf_document.specs.Working.Enums.{AreWords}
use Rattle.cudf_problem.proofs.ListLemmas.{list_any-insert_key}
use Rattle.cudf_document.proofs.NameLemmas.{same_bytes, bytes_eq-sym}

-- one more word
pub AreWords-next : (words : List (Bor (List ℕ))) (word : Bor (List ℕ)) (names : List (List ℕ))
    → AreWords words names → AreWords (words ++ word ∷ []) (insert_key bytes_eq names word.now)
AreWords-next words word names are text =
    list_any-insert_key bytes_eq (bytes_eq text) names word.now (λ k same. ap (bytes_eq text) (sym (same_bytes word.now k same)))
    ∙ (λ i. are text i || (bytes_eq-sym text word.now ∙ sym (or-false (bytes_eq word.now text))) i)
    ∙ sym (list_any-append (λ w. bytes_eq w text) (map (λ w. w.now) words) (word.now ∷ []))
    ∙ ap (list_any (λ w. bytes_eq w text)) (sym (map_push (λ w. w.now) words word))
