pub mod sequence
pub mod shared
