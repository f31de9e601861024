use Rattle.std.proofs.Common.{◌≡◌, ℕ, List, ◌++◌, ◌∷◌, [], take, sym, subst, Bor, get_or, bytes_eq}
use Rattle.std.proofs.lemmas.List.{take_more}
use Rattle.indexmap.specs.IndexSet.{insert_key}
use Rattle.cudf_document.specs.Working.Enums.{AreWords}
use Rattle.cudf_document.proofs.EnumLemmas.{AreWords-next}
use Rattle.cudf_document.proofs.declarations.names_of.Goals as goal

pub loop-word-preserved : goal.loop-word-preserved
loop-word-preserved c =
    let words = c.args.words.now in
    let i = c.loop-word.word-index in
    let w = get_or words i _ in
    let h : c.insert.new.self ≡ insert_key bytes_eq c.loop-word.names w.now = c.in_ok-insert.ensures.names in
    subst (λ (ws : List (Bor (List ℕ))). AreWords ws c.insert.new.self) (sym (take_more words i _ c.loop-word-test.true))
    (subst (λ (ns : List (List ℕ)). AreWords (take i words ++ w ∷ []) ns) (sym h) (AreWords-next (take i words) w c.loop-word.names c.loop-word.invariant))
