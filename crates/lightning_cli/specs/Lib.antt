pub mod Commands
pub mod Rows
pub mod Serving
pub mod Turns
