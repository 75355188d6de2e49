pub mod DeltaLines
pub mod RowKinds
pub mod Shown
pub mod StatusLines
pub mod Words
