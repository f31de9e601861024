pub mod Constraints
pub mod Definitions
pub mod Sources
