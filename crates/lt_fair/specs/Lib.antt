pub mod View
pub mod Messages
pub mod Faults
pub mod Windows
