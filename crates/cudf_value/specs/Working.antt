pub mod Atoms
pub mod Entries
pub mod Rests
pub mod Spots
