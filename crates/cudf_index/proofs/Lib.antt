pub mod SearchLemmas
pub mod SatisfactionLemmas
pub mod MemberLemmas
pub mod CountLemmas
pub mod TakenOffLemmas
pub mod EndLemmas
pub mod BoundLemmas
pub mod GatheringLemmas
pub mod FoundLemmas
pub mod HalvesLemmas
pub mod TreeLemmas
pub mod VersionLemmas
pub mod WantedLemmas
pub mod PlaceLemmas
pub mod ClauseLemmas
pub mod QuestionLemmas
pub mod LeastLemmas
pub mod KeptLemmas
pub mod PriceLemmas
pub mod ShareLemmas
pub mod SearchedLemmas
pub mod GiverLemmas
pub mod PairLemmas
pub mod RunLemmas
pub mod AddedLemmas
mod SatisfactionExamples
mod PriceExamples
