pub mod Bytes
pub mod Documents
pub mod Fronts
pub mod Given
pub mod Rooms
