pub mod FileLemmas
pub mod GrammarLemmas
pub mod MatchLemmas
pub mod OrderLemmas
