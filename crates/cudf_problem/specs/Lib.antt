pub mod Documents
pub mod Values
pub mod Ids
pub mod Preamble
pub mod Universe
pub mod Statuses
pub mod Promises
pub mod Working
