pub mod Command
pub mod Grammar
pub mod Orders
pub mod Usage
