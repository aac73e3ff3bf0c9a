pub mod Moves
pub mod Weights
pub mod Worlds
pub mod Steps
pub mod Splitting
pub mod Playing
pub mod Memos
