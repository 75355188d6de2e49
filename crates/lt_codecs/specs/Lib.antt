pub mod Codec
pub mod CodecLaws
pub mod LogCodec
pub mod Front
