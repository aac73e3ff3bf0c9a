mod ZeroBits
mod StmtLaws
mod StoreLaws
mod CoverLaws
mod LevelLaws
mod FragmentLaws
mod Elements
mod ZeroTests
mod ProportionalTests
mod StartLaws
mod DecideLaws
pub mod WorldProofs
pub mod RefuteLaws
pub mod NoughtLaws
pub mod OwingProofs
pub mod ValidOwed
pub mod ClaimedOwed
mod TameLaws
pub mod CorrectLaws
pub mod CountLaws
mod ExampleWorlds
