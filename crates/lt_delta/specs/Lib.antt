pub mod View
pub mod Reading
pub mod Writing
pub mod Layouts
pub mod Entries
pub mod Meeting
