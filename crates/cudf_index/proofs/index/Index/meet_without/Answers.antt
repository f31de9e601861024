use Rattle.std.proofs.Common.{◌≡◌, ◌||◌, ◌&&◌, false, not, nat_lt, bytes_eq, Some, sym, ap, ◌∙◌}
use Rattle.std.specs.List.{count_by}
use Rattle.cudf_value.specs.Promises.Views.{vpkg_view}
use Rattle.cudf_value.specs.Vpkgs.{meets}
use Rattle.cudf_index.specs.Satisfaction.{numbers_of, gives_all_versions, without, is_below_one, satisfies}
use Rattle.cudf_index.proofs.TakenOffLemmas.{kept_exceeds, satisfies-counted, more_than_own, unsatisfied_without}
use Rattle.cudf_index.proofs.index.Index.meet_without.Goals as goal

pub returns-then-exceeds-clause-answer : goal.returns-then-exceeds-clause-answer
returns-then-exceeds-clause-answer c =
    let v = vpkg_view c.args.vpkg.now in
    let status = c.args.self.now in
    let others = without c.args.place status in
    let all_versions = count_by (λ given. bytes_eq given v.name) (gives_all_versions status) in
    c.exceeds-then-exceeds.ensures
    ∙ kept_exceeds v.name status (Some c.args.entries.now) c.requires c.own.result.numbers c.own.result.unversioned c.met-all.result.numbers c.met-all.result.unversioned v.bound c.met-all.ensures.numbers c.met-all.ensures.unversioned
    ∙ ap (λ b. b || (nat_lt c.own.result.unversioned all_versions && not (is_below_one v.bound))) (more_than_own _ _ _ c.own.ensures.numbers)
    ∙ ap (λ b. nat_lt 0 (count_by (meets v.bound) (numbers_of v.name others)) || (b && not (is_below_one v.bound))) (more_than_own _ _ _ c.own.ensures.unversioned)
    ∙ sym (satisfies-counted others v)

pub returns-clause-answer : goal.returns-clause-answer
returns-clause-answer c =
    let v = vpkg_view c.args.vpkg.now in
    let status = c.args.self.now in
    let exceeded : (nat_lt 0 c.met-all.result.numbers || nat_lt 0 c.met-all.result.unversioned) ≡ false = sym (rw c.none.ensures at c.exceeds.ensures) ∙ c.if-exceeds.false in
    let unsatisfied : satisfies status v ≡ false =
    satisfies-counted status v
    ∙ sym (kept_exceeds v.name status (Some c.args.entries.now) c.requires 0 0 c.met-all.result.numbers c.met-all.result.unversioned v.bound c.met-all.ensures.numbers c.met-all.ensures.unversioned)
    ∙ exceeded in
    sym (unsatisfied_without status v c.args.place unsatisfied)
