use Rattle.std.proofs.Common.{List, ℕ, subst, sym, ◌∙◌, refl}
use Rattle.std.proofs.lemmas.Result.{on_ok_weaker}
use Rattle.cudf_index.specs.Working.Givers.{Adds}
use Rattle.cudf_index.specs.Working.Places.{HoldsSame}
use Rattle.cudf_index.proofs.AddedLemmas.{GivesEach, gathers_mixed, gathers_pure}
use Rattle.cudf_index.proofs.PlaceLemmas.{rising_from}
use Rattle.cudf_index.proofs.index.counts.Gathering.add.Goals as goal

pub returns-then-any_unversioned-clause-more : goal.returns-then-any_unversioned-clause-more
returns-then-any_unversioned-clause-more c = λ done so_far.
    let ns = c.sort_and_dedup.new.places.items in
    let gives : GivesEach c.args.run.now ns = record { up = rising_from ns c.sort_and_dedup.ensures.rises; same = subst (λ (old : List ℕ). HoldsSame old ns) c.in_ok-put_numbers.ensures c.sort_and_dedup.ensures.same } in
    let adds = subst (λ (new : List ℕ). Adds new c.args.self.now.numbers c.add.new.self) c.deref.ensures.value c.in_ok-add.ensures in
    gathers_mixed c.args.run.now ns gives done c.args.self.now _ adds so_far (sym c.any_unversioned.ensures ∙ c.if-any_unversioned.true) refl refl

pub returns-clause-more : goal.returns-clause-more
returns-clause-more c =
    let ns = c.sort_and_dedup.new.places.items in
    let gives : GivesEach c.args.run.now ns = record { up = rising_from ns c.sort_and_dedup.ensures.rises; same = subst (λ (old : List ℕ). HoldsSame old ns) c.in_ok-put_numbers.ensures c.sort_and_dedup.ensures.same } in
    let adds = subst (λ (new : List ℕ). Adds new c.args.self.now.numbers c.add.new.self) c.deref.ensures.value c.in_ok-add.ensures in
    on_ok_weaker c.add-2.result
    (λ pure done so_far. gathers_pure c.args.run.now ns gives done c.args.self.now _ adds so_far (sym c.any_unversioned.ensures ∙ c.if-any_unversioned.false) refl (subst (λ (new : List ℕ). Adds new c.args.self.now.pure c.add-2.new.self) c.deref-2.ensures.value pure))
    c.add-2.ensures
