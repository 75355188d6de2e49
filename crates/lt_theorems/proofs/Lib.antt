pub mod UnorderedTables
pub mod Endurance
pub mod LayoutLaws
pub mod VersionLaws
pub mod ReadGrowth
pub mod MachineLaws
pub mod ReachedSession
