pub mod SlotLaws
pub mod Choosing
pub mod Gates
pub mod Tears
pub mod Stages
pub mod Puts
