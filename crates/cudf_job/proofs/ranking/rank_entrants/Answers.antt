use Rattle.std.proofs.Common.{◌≡◌, rules}
use Rattle.std.specs.Ordering.{is_lt}
use Rattle.std.proofs.lemmas.Fn.{always_returns_same}
use Rattle.cudf_job.specs.Ranking.{precedes}
use Rattle.cudf_job.proofs.RankingLemmas.{precedes_weak, sorted_is_ranking}
use Rattle.cudf_job.proofs.ranking.rank_entrants.Goals as goal

pub returns : goal.returns
returns c =
    let aims = c.args.aims.now in
    sorted_is_ranking aims c.args.entrants.items c.sort_by.new.self.items c.requires c.in_ok-sort_by.ensures.permutation
    (c.in_ok-sort_by.ensures.sorted (precedes aims) (precedes_weak aims) (always_returns_same _ (λ a r. is_lt r ≡ precedes aims a.0.now a.1.0.now) _ (λ a r q k. search rules)))
