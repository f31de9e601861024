pub mod Better
pub mod Cardinality
pub mod Encodings
pub mod Laws
pub mod Working
