pub mod Meaning
pub mod Rows
pub mod Goals
pub mod Macros
pub mod Valid
pub mod Held
pub mod Placed
pub mod Laws
