pub mod Object
pub mod Disk
pub mod Feed
pub mod Slots
pub mod Extents
pub mod RowSink
