pub mod Standing
pub mod Covering
pub mod Looking
pub mod Opening
pub mod Making
pub mod Commits
