pub mod View
pub mod Reading
pub mod Keys
pub mod KeyCodec
pub mod Messages
pub mod formers
