pub mod Utf8
pub mod KeyText
pub mod KeyReads
pub mod KeyCodecs
pub mod ViewLaws
