pub mod Value
pub mod Kind
pub mod Conversion
pub mod Codes
pub mod Key
pub mod Layout
pub mod Log
