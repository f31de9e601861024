use Rattle.std.proofs.Common.{ap, ◌∙◌, ◌∷◌, [], Some, None, subst}
use Rattle.std.specs.Prelude.{option_map}
use Rattle.cudf_value.specs.Promises.Views.{vpkg_view}
use Rattle.cudf_index.specs.Working.Kept.{Keeps}
use Rattle.cudf_index.specs.Working.Shares.{GivesMuch}
use Rattle.cudf_index.proofs.ShareLemmas.{share_numbers, share_unversioned, share_price}
use Rattle.cudf_index.proofs.index.member.PackageProvisions.met.Goals as goal

pub returns-in-Some-clause-numbers : goal.returns-in-Some-clause-numbers
returns-in-Some-clause-numbers c =
    c.count.ensures.counted
    ∙ share_numbers (vpkg_view c.args.vpkg.now) c.args.self.now (Some c.in-Some.entries.now) (subst (λ o. Keeps c.args.vpkg.now.name.now (c.args.self.now ∷ []) (option_map (λ e. e.now) o)) c.in-Some.is c.kept.ensures)

pub returns-in-Some-clause-unversioned : goal.returns-in-Some-clause-unversioned
returns-in-Some-clause-unversioned c =
    share_unversioned (vpkg_view c.args.vpkg.now) c.args.self.now (Some c.in-Some.entries.now) (subst (λ o. Keeps c.args.vpkg.now.name.now (c.args.self.now ∷ []) (option_map (λ e. e.now) o)) c.in-Some.is c.kept.ensures)

pub returns-in-Some-clause-price : goal.returns-in-Some-clause-price
returns-in-Some-clause-price c =
    share_price (vpkg_view c.args.vpkg.now) c.args.self.now (Some c.in-Some.entries.now) (subst (λ o. Keeps c.args.vpkg.now.name.now (c.args.self.now ∷ []) (option_map (λ e. e.now) o)) c.in-Some.is c.kept.ensures)
    c.args.steps.now c.tick.new.self c.count.new.steps (subst GivesMuch c.self.view_is c.self.invariant.1) c.tick.ensures c.count.ensures.price

pub returns-in-None-clause-numbers : goal.returns-in-None-clause-numbers
returns-in-None-clause-numbers c =
    ap (λ m. m.numbers) c.none.ensures
    ∙ share_numbers (vpkg_view c.args.vpkg.now) c.args.self.now None (subst (λ o. Keeps c.args.vpkg.now.name.now (c.args.self.now ∷ []) (option_map (λ e. e.now) o)) c.in-None.is c.kept.ensures)

pub returns-in-None-clause-unversioned : goal.returns-in-None-clause-unversioned
returns-in-None-clause-unversioned c =
    ap (λ m. m.unversioned) c.none.ensures
    ∙ share_unversioned (vpkg_view c.args.vpkg.now) c.args.self.now None (subst (λ o. Keeps c.args.vpkg.now.name.now (c.args.self.now ∷ []) (option_map (λ e. e.now) o)) c.in-None.is c.kept.ensures)
