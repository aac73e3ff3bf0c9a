mod ScopeLaws
mod NoteLaws
mod StatementLaws
pub mod ValidLists
pub mod ValidLevels
pub mod ValidKnown
pub mod ValidCalls
pub mod ValidNotes
pub mod ValidStatements
pub mod ValidTrees
pub mod ValidLaws
pub mod NoMemory
pub mod TextsLaws
