pub mod Firsts
pub mod Overlays
