pub mod Marks
pub mod Simples
pub mod Bodies
pub mod Pieces
pub mod Deepening
pub mod Endings
pub mod Ways
pub mod Judged
