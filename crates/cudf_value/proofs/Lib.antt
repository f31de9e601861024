pub mod AtomLemmas
pub mod LeftLemmas
pub mod EntryLemmas
mod Examples
pub mod NumberLemmas
pub mod PartsLemmas
pub mod PiecesLemmas
pub mod SpotLemmas
mod MadeLemmas
pub mod MisfitLemmas
pub mod PrintingLemmas
pub mod ReadBack
mod TokenLemmas
pub mod TypeLemmas
pub mod VpkgLemmas
pub mod DeclarationLemmas
mod EnumLemmas
