pub mod Matching
pub mod Trims
pub mod Values
