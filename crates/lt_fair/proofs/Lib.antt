pub mod FirstVersions
pub mod FaultParts
pub mod WindowLaws
pub mod AboveLaws
