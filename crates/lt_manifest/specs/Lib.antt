pub mod Messages
pub mod Reading
pub mod Rules
pub mod Texts
pub mod View
pub mod Writing
