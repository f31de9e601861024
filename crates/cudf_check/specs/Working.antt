pub mod Bettered
pub mod Found
pub mod Judged
pub mod Named
pub mod Pages
pub mod ProofNote
pub mod Scribes
pub mod Unjudged
