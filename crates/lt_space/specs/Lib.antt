pub mod Order
pub mod Extents
pub mod Taken
pub mod Gaps
