pub mod Laws
pub mod Tokens
pub mod Types
pub mod Views
