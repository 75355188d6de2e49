pub mod Plans
pub mod Histories
pub mod Overwrites
pub mod Images
pub mod Crashes
pub mod Written
pub mod Moments
