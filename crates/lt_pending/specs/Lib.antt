pub mod Stamps
pub mod Held
