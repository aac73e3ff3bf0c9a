pub mod Reading
pub mod Stops
pub mod Agreement
pub mod Ends
pub mod Parts
pub mod Loops
