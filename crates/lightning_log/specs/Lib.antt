pub mod Front
pub mod Program
pub mod Writing
pub mod Reading
