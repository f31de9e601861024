pub mod Errors
pub mod Faults
pub mod Laws
pub mod NameRooms
pub mod Views
