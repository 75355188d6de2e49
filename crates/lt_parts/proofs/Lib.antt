pub mod Bounds
pub mod Ranges
pub mod Meets
pub mod Numbers
pub mod Edges
pub mod Edits
