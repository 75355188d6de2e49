pub mod Items
pub mod Spellings
pub mod Entries
pub mod LayoutOrder
pub mod Indexes
pub mod Writes
pub mod Meets
