pub mod Entries
pub mod Walks
pub mod Lookups
pub mod Restored
pub mod Whole
pub mod Kept
pub mod Sizes
pub mod Changed
pub mod Nameless
mod Elements
