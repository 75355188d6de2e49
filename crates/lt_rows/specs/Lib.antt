pub mod Scans
pub mod Present
pub mod View
