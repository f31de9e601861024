pub mod ClassBits
pub mod LineView
pub mod Marks
pub mod Steps
pub mod Left
pub mod Tracked
pub mod Reading
