pub mod StoreCodec
pub mod BundleCodec
pub mod StoreFront
