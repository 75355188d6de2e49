pub mod Leaves
pub mod Cells
pub mod Placed
