pub mod Verdicts
pub mod Texts
pub mod Shown
pub mod Refusals
