pub mod Messages
pub mod Reading
pub mod View
pub mod Writing
