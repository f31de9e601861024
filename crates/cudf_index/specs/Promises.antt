pub mod Members
pub mod Prices
pub mod Places
pub mod Counts
