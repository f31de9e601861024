pub mod FaultLemmas
pub mod DeclarationLemmas
pub mod NameLemmas
pub mod EnumLemmas
pub mod TestLemmas
mod IdentityLemmas
pub mod PropertyLemmas
pub mod PackageLemmas
pub mod RequestLemmas
pub mod PreambleLemmas
pub mod BuilderLemmas
pub mod FaultlessLemmas
pub mod FoundLemmas
mod FoundFaultLemmas
pub mod LawLemmas
pub mod MisplacedLemmas
pub mod ExtraLemmas
mod ModeLemmas
pub mod SolutionPackageLemmas
mod PairLemmas
mod ProposedLemmas
mod PlacedLemmas
mod LineLemmas
mod WalkLemmas
mod PartsLemmas
pub mod DetailLemmas
