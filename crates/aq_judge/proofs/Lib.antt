pub mod RunLaws
pub mod ShowLaws
pub mod VerdictLaws
mod ExampleLaws
