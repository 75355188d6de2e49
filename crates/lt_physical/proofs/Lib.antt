pub mod LeafLists
pub mod Found
pub mod Carriers
pub mod FewVersions
pub mod Numbers
pub mod NextFields
pub mod PlacedCells
