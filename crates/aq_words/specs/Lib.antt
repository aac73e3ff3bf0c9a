pub mod Parsers
pub mod Entries
pub mod Commands
