use Rattle.std.proofs.Common.{◌<◌, ℕ, true, List, length, set, subst, sym}
use Rattle.cudf_reasons.specs.Reasons.{PlainReason}
use Rattle.cudf_reasons.specs.Working.Walks.{IsMarked, Progress}
use Rattle.cudf_reasons.proofs.MarkLemmas.{told_marked}
use Rattle.cudf_reasons.proofs.walk.Walk.tell.Goals as goal

pub invariant_of-self-then-not-index : goal.invariant_of-self-then-not-index
invariant_of-self-then-not-index c =
    let core : List PlainReason = c.self.inside.table.now in
    let within : c.args.index < length core = subst (λ (p : Progress). c.args.index < length p.core) (sym c.self.view_is) c.requires in
    subst (λ (xs : List ℕ). IsMarked core xs (set c.self.inside.is_told.items c.args.index true) c.self.inside.is_followed.items) (sym c.in_ok-push.ensures.items)
    (told_marked core c.self.inside.order.items c.self.inside.is_told.items c.self.inside.is_followed.items c.self.invariant c.args.index within)
