pub mod Depth
pub mod Front
pub mod KeyLength
pub mod Loop
pub mod Spellings
