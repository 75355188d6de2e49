pub mod Orders
pub mod Sorting
pub mod Spots
pub mod Overlaps
pub mod Passing
pub mod Permuted
pub mod Taking
