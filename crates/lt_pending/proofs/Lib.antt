pub mod Copies
pub mod Lists
pub mod Names
pub mod Puts
pub mod Splits
pub mod Takes
