pub mod Clips
pub mod EachRow
pub mod Grouped
pub mod Puts
pub mod Splits
pub mod Steps
pub mod Takes
