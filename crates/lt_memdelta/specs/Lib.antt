pub mod Stamps
pub mod Groups
pub mod Deltas
pub mod Walks
pub mod Iters
