pub mod Tested
pub mod TurnLaws
pub mod SlotLaws
