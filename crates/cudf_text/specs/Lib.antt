pub mod Chars
pub mod Lines
pub mod LineFaults
pub mod Stanzas
pub mod Joined
pub mod Faults
pub mod Promises
pub mod Working
