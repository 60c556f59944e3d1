pub mod SmallCodec
pub mod SmallLaws
