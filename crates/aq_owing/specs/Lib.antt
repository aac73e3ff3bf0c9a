pub mod Asking
pub mod Made
pub mod FaultNames
pub mod Making
