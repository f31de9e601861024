use Rattle.std.proofs.Common.{ap, ◌∙◌, Option, Some}
use Rattle.std.specs.Ordering.{is_eq, is_lt, is_some_and}
use Rattle.std.specs.declared.cmp.Ordering.{Ordering}
use Rattle.cudf_job.specs.contracts.key.KeyOrd.TheImpl.Laws as law
use Rattle.cudf_job.specs.KeyViews.{key_view}
use Rattle.cudf_job.proofs.KeyLemmas.{key_ranked, equal_keys}
use Rattle.cudf_referee.proofs.laws.order.Goals as goal

pub returns-clause-compared : goal.returns-clause-compared
returns-clause-compared c =
    let a = c.args.left in
    let b = c.args.right in
    key_ranked a.part b.part a.rule b.rule a.place b.place a.aspect b.aspect

pub returns-clause-partial : goal.returns-clause-partial
returns-clause-partial c =
    let a = c.args.left in
    let b = c.args.right in
    law.matches_partial_cmp-law a b ∙ ap (λ (o : Ordering). Some o) (key_ranked a.part b.part a.rule b.rule a.place b.place a.aspect b.aspect)

pub returns-clause-less : goal.returns-clause-less
returns-clause-less c =
    let a = c.args.left in
    let b = c.args.right in
    ap (λ (o : Option Ordering). is_some_and is_lt o) (law.matches_partial_cmp-law a b) ∙ ap is_lt (key_ranked a.part b.part a.rule b.rule a.place b.place a.aspect b.aspect)

pub returns-clause-equal : goal.returns-clause-equal
returns-clause-equal c =
    let a = c.args.left in
    let b = c.args.right in
    equal_keys (key_view a) (key_view b) _ (law.matches_eq-law a b ∙ ap is_eq (key_ranked a.part b.part a.rule b.rule a.place b.place a.aspect b.aspect))
