pub mod Bundle
pub mod Store
