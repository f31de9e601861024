pub mod Borrows
pub mod Classes
pub mod Cursor
pub mod Errors
pub mod Joins
pub mod Laws
pub mod Rooms
pub mod Views
