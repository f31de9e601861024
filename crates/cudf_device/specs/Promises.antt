pub mod Answering
pub mod DeviceInside
pub mod InTurn
pub mod NamedInside
pub mod PaperInside
