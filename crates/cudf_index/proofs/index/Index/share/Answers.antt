use Rattle.std.proofs.Common.{◌≡◌, ℕ, ◌==◌, List, length, get_or, Option, Some, ap, sym, ◌∙◌, subst, arith, Bor}
use Rattle.std.specs.Prelude.{find}
use Rattle.std.specs.Option.{is_some, IfSome}
use Rattle.std.proofs.Math.Dec.{ltb}
use Rattle.std.proofs.lemmas.Bool.{ltb-true}
use Rattle.std.proofs.lemmas.List.Elements.{All-get_or}
use Rattle.cudf_index.specs.Satisfaction.{Placed}
use Rattle.cudf_index.specs.Working.Shares.{AreShares}
use Rattle.cudf_index.proofs.index.Index.share.Goals as goal

-- a share that is read is the package at its place
share_read : (status now xs : List Placed) (i place : ℕ) (o : Option (Bor Placed)) (s : Bor Placed) → status ≡ now → AreShares status xs
    → is_some o ≡ ltb i (length xs) → IfSome o (λ x. x.now ≡ get_or xs i x.now) → o ≡ Some s → s.now.0 ≡ place → Some s.now ≡ find (λ q. q.0 == place) now
share_read status now xs i place o s view all inside read is at =
    let there : s.now ≡ get_or xs i s.now = subst (λ r. IfSome r (λ x. x.now ≡ get_or xs i x.now)) is read in
    let found : Some s.now ≡ find (λ q. q.0 == s.now.0) status =
    subst (λ p. Some p ≡ find (λ q. q.0 == p.0) status) (sym there)
    (All-get_or (λ p. Some p ≡ find (λ q. q.0 == p.0) status) xs i s.now (ltb-true i (length xs) (sym inside ∙ ap is_some is)) all) in
    found ∙ ap (λ n. find (λ q. q.0 == n) status) at ∙ ap (find (λ q. q.0 == place)) view

pub returns : goal.returns
returns c =
    share_read _ c.args.self.now c.deref-2.result.now c.partition_point-near.result c.args.place c.get.result c.in_ok-share.share
    c.self.view_is (subst (AreShares _) (sym c.deref-2.ensures.value) c.self.invariant.1) c.get.ensures.lookup.0 c.get.ensures.lookup.1 c.in_ok-share.was (omega (arith, c.place.ensures))
