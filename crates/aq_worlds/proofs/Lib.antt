mod UnfitLaws
mod PlayLaws
mod ZeroLaws
pub mod SpreadLaws
mod SeveralLaws
mod CallLaws
mod SameLaws
mod StartLaws
mod DecideLaws
mod CaseLaws
mod ExampleLaws
