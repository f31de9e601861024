pub mod AimLemmas
pub mod KeyLemmas
pub mod KeyTextLemmas
pub mod RankingLemmas
