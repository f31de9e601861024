pub mod Cnf
pub mod Encodings
pub mod Laws
pub mod Working
