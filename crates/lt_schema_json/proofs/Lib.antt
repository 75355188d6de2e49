pub mod Members
pub mod Fronts
pub mod KindForms
pub mod Defaults
pub mod ReadTexts
pub mod Written
