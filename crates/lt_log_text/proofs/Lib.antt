pub mod Written
pub mod Forms
pub mod Numbers
pub mod Values
pub mod ReadsBack
pub mod Frames
